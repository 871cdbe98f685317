-- `token_at` meets its contract: each arm of the class has its law, and the place has the line and column of its start.
-- Assumes nothing.
use mathlib.Core.Path.{sym, ◌∙◌}
use Rattle.tokens.proofs.Starts.{end_at, as_placed, as_other, as_end, name_at, variable_at, zero_at, number_at, anonymous_at, other_at_lem}
use Rattle.tokens.proofs.token_at.Goals as goal

pub returns-then-text-byte : goal.returns-then-text-byte
returns-then-text-byte c = c.placed.ensures ∙ as_end _ c.args.at c.requires c.if-text-byte.true ∙ sym (end_at _ _ c.if-text-byte.true)

pub returns-then-first-eq48 : goal.returns-then-first-eq48
returns-then-first-eq48 c = c.placed-then-first-eq48.ensures ∙ as_placed _ c.args.at c.requires _ _ ∙ zero_at _ _ c.if-text-byte.false _ c.class_of.ensures c.in-Digit.is c.if-first-eq48.true

pub returns-in-Lower : goal.returns-in-Lower
returns-in-Lower c = c.placed-in-Lower.ensures ∙ as_placed _ c.args.at c.requires _ _ ∙ name_at _ _ c.if-text-byte.false _ c.class_of.ensures c.in-Lower.is _ _ _ _ c.run_end.ensures c.byte_at.ensures c.byte_at-in-Lower.ensures c.name_kind-kind.ensures

pub returns-in-Upper : goal.returns-in-Upper
returns-in-Upper c = c.placed-in-Upper.ensures ∙ as_placed _ c.args.at c.requires _ _ ∙ variable_at _ _ c.if-text-byte.false _ c.class_of.ensures c.in-Upper.is _ c.run_end-in-Upper.ensures

pub returns-else-first-eq48 : goal.returns-else-first-eq48
returns-else-first-eq48 c = c.placed-in-Digit.ensures ∙ as_placed _ c.args.at c.requires _ _ ∙ number_at _ _ c.if-text-byte.false _ c.class_of.ensures c.in-Digit.is c.if-first-eq48.false _ c.run_end-in-Digit.ensures

pub returns-in-Underscore : goal.returns-in-Underscore
returns-in-Underscore c = c.placed-in-Underscore.ensures ∙ as_placed _ c.args.at c.requires _ _ ∙ anonymous_at _ _ c.if-text-byte.false _ c.class_of.ensures c.in-Underscore.is

pub returns-in-Other : goal.returns-in-Other
returns-in-Other c = c.other_at.ensures ∙ as_other _ c.args.at c.requires _ _ ∙ other_at_lem _ _ c.if-text-byte.false _ c.class_of.ensures c.in-Other.is
