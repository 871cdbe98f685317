-- `gap::starts_comment` meets its contract: each return says which of the two tests failed, or that neither did.
-- Assumes nothing.
use Prim.Native.Nat.{ℕ}
use native.Mathlib.Omega.{arith}
use mathlib.Core.Path.{◌≡◌, sym, ◌∙◌}
use borrow.Author.Tests.{eq-eqb, ne_eqb}
use Rattle.tokens.proofs.Gaps.{starts_comment_at}
use Rattle.texts.proofs.Prefix.{byte_inside}
use Rattle.tokens.proofs.gap.starts_comment.Goals as goal

pub returns-then-byte_at-ne37 : goal.returns-then-byte_at-ne37
returns-then-byte_at-ne37 c = rw (starts_comment_at, ← c.byte_at.ensures, ne_eqb _ _ c.if-byte_at-ne37.true)

pub overflow_add-at : goal.overflow_add-at
overflow_add-at c =
    let a = c.args in
    let i = byte_inside a.text.now a.at (λ z. let q : ◌≡◌ {A = ℕ} 37 0 = sym c.if-byte_at-ne37.false ∙ c.byte_at.ensures ∙ z in omega arith) in
    omega arith

pub returns : goal.returns
returns c = rw (starts_comment_at, ← c.byte_at.ensures, eq-eqb _ _ c.if-byte_at-ne37.false, c.byte_at-2.ensures)
