-- `to_dot` meets its contract: the first token stands before the end of the first dot. Assumes nothing.
use Prim.Native.Nat.{ℕ, ◌-◌}
use native.Mathlib.Omega.{arith}
use mathlib.Core.Bool.{false}
use mathlib.Core.Path.{sym as inv, ap, ◌∙◌}
use Rattle.texts.specs.Place.{with_len}
use Rattle.rule_places.proofs.Dots.{no_token, start_before, first_to_dot}
use Rattle.rule_places.proofs.to_dot.Goals as goal

pub returns-then-token-eq-END : goal.returns-then-token-eq-END
returns-then-token-eq-END c =
    inv (no_token false c.args.text.now c.args.at.start _ c.token_at-token.ensures c.if-token-eq-END.true)

pub overflow_sub-end : goal.overflow_sub-end
overflow_sub-end c =
    let before = start_before false c.args.text.now c.args.at.start _ c.token_at-token.ensures c.if-token-eq-END.false in
    omega (arith, c.dot_end-end.ensures.0)

pub returns : goal.returns
returns c =
    c.with_len.ensures ∙ ap (λ (end : ℕ). with_len c.token_at-token.result.place (end - c.token_at-token.result.place.start)) c.dot_end-end.ensures.0 ∙ inv (first_to_dot false c.args.text.now c.args.at.start _ c.token_at-token.ensures c.if-token-eq-END.false)
