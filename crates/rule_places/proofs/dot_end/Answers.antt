-- `dot_end` meets its contract. The invariant: reading stands here, and the first dot from here on is the first from the start on. The
-- measure is what is left of the text. Assumes nothing.
use native.Mathlib.Omega.{arith}
use mathlib.Core.Bool.{false}
use mathlib.Core.Path.{refl, sym as inv, ap, ◌∙◌}
use Rattle.syntax.proofs.Tokens.{within, place_stands, past_countable, past_here, forward, end_here}
use Rattle.rule_places.proofs.Dots.{no_dot, dot_here, dot_later}
use Rattle.rule_places.proofs.dot_end.Goals as goal

pub reading-init : goal.reading-init
reading-init c = (c.requires, refl)

pub token_at-token-requires : goal.token_at-token-requires
token_at-token-requires c = c.reading.invariant.0

pub past-end-requires : goal.past-end-requires
past-end-requires c =
    past_countable false c.args.text.now c.reading.next.start _ c.token_at-token.ensures (omega arith)

pub returns-then-token-eq-END : goal.returns-then-token-eq-END
returns-then-token-eq-END c =
    (inv (c.reading.invariant.1 ∙ no_dot false c.args.text.now c.reading.next.start _ c.token_at-token.ensures c.if-token-eq-END.true ∙ ap (λ p. p.start) (end_here false c.args.text.now c.reading.next.start _ c.token_at-token.ensures c.if-token-eq-END.true)), place_stands false c.args.text.now c.reading.next.start _ c.token_at-token.ensures)

pub returns-then-token-eq-DOT : goal.returns-then-token-eq-DOT
returns-then-token-eq-DOT c =
    (ap (λ p. p.start) c.past-end.ensures ∙ inv (c.reading.invariant.1 ∙ dot_here false c.args.text.now c.reading.next.start _ c.token_at-token.ensures c.if-token-eq-DOT.true), rw c.past-end.ensures (past_here false c.args.text.now c.reading.next.start _ c.token_at-token.ensures (λ q. refl)))

pub reading-smaller : goal.reading-smaller
reading-smaller c =
    omega (arith, ap (λ p. p.start) c.past-end.ensures, forward false c.args.text.now c.reading.next.start _ c.token_at-token.ensures c.if-token-eq-END.false, within false c.args.text.now c.reading.next.start _ c.token_at-token.ensures)

pub reading-preserved : goal.reading-preserved
reading-preserved c =
    rw c.past-end.ensures (past_here false c.args.text.now c.reading.next.start _ c.token_at-token.ensures (λ q. refl), c.reading.invariant.1 ∙ dot_later false c.args.text.now c.reading.next.start _ c.token_at-token.ensures c.if-token-eq-END.false c.if-token-eq-DOT.false)
