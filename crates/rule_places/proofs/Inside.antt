-- The place of a refusal, and that of a rule or a fact, lies inside the text that was read, and has the line and the column of its start.
use mathlib.Core.Bool.{Bool, true, false}
use mathlib.Core.Path.{◌≡◌, refl, sym as inv}
use Prim.Native.Nat.{ℕ, zero, suc, ◌+◌, ◌≤◌}
use native.Mathlib.Omega.{arith}
use lib.Dec.{eqb}
use lib.ListN.{length}
use borrow.Author.Tests.{eqb-true, eqb-false}
use Rattle.texts.specs.declared.place.Place.{Place}
use Rattle.texts.specs.Place.{Stands}
use Rattle.reading.specs.Reading.{refused, wrong, short, over}
use Rattle.reading.specs.Faults.{place_at}
use Rattle.meaning.specs.Rules.{Bytes}
use Rattle.grammar.proofs.Theorems.{leftmost}
use Rattle.syntax.specs.declared.token.TokenRead.{TokenRead}
use Rattle.syntax.specs.Text.{placed_from, end_of, token_read, next_of}
use Rattle.syntax.specs.Programs.{ReadAs}
use Rattle.syntax.proofs.Tokens.{place_within, place_stands, placed_more, placed_end, end_here}
use Rattle.rule_places.specs.Sentences.{to_dot, sentence}
use Rattle.rule_places.proofs.Dots.{dot_inside, no_token, first_to_dot, reached, reached_sentence}

abbrev pub Within : Bytes → Place → Type 0
Within text p = p.start + p.len ≤ length text

module _ (ground : Bool) (text : Bytes) where
  abbrev token : ℕ → TokenRead
  token at = token_read ground text at

  -- what holds of the place of every token, and so of the end, holds of the place at every position
  module _ (P : Place → Type 0) (each : (at : ℕ) → P (token at).place) where
    or_at_end : (k at : ℕ) → (((token at).kind ≡ 20 → ⊥) → P (place_at (end_of text) (placed_from ground text at) k)) → P (place_at (end_of text) (placed_from ground text at) k)
    unfolding place_at
    or_at_end k at some = go (eqb (token at).kind 20) refl
      where
        go : (b : Bool) → eqb (token at).kind 20 ≡ b → P (place_at (end_of text) (placed_from ground text at) k)
        go true e = let z = eqb-true (token at).kind 20 e in rw (placed_end ground text at (token at) refl z, end_here ground text at (token at) refl z) (each at)
        go false e = some (eqb-false (token at).kind 20 e)

    at_position : (k at : ℕ) → P (place_at (end_of text) (placed_from ground text at) k)
    unfolding place_at
    at_position zero at = or_at_end zero at (λ n. rw (placed_more ground text at (token at) refl n) (each at))
    at_position (suc k) at = or_at_end (suc k) at (λ n. rw (placed_more ground text at (token at) refl n) (at_position k (next_of (token at))))

    refused_holds : (n : ℕ) (p : Place) → ReadAs ground text (refused n p) → P p
    refused_holds n p h = let l = leftmost ground (end_of text) (placed_from ground text 0) n p h in rw l.place at (at_position l.position 0)

  -- every token of the text, and its end
  pub position_stands : (k : ℕ) → Stands text (place_at (end_of text) (placed_from ground text 0) k)
  position_stands k = at_position (Stands text) (λ at. place_stands ground text at (token at) refl) k 0

  pub refused_inside : (n : ℕ) (p : Place) → ReadAs ground text (refused n p) → Within text p
  refused_inside = refused_holds (Within text) (λ at. place_within ground text at (token at) refl)

  pub refused_stands : (n : ℕ) (p : Place) → ReadAs ground text (refused n p) → Stands text p
  refused_stands = refused_holds (Stands text) (λ at. place_stands ground text at (token at) refl)

  -- and its number is that of a refusal
  pub refused_number : (n : ℕ) (p : Place) → ReadAs ground text (refused n p) → 1 ≤ n
  refused_number n p (wrong before t behind e b w) = omega arith
  refused_number n p (short b w) = omega arith
  refused_number n p (over before t behind e b m s k f) = omega arith

  -- from the first token at or after a place to the first dot
  to_dot_inside : (at : ℕ) → Stands text (to_dot (end_of text) (placed_from ground text at)) × Within text (to_dot (end_of text) (placed_from ground text at))
  to_dot_inside at = go (eqb (token at).kind 20) refl
    where
      s : Stands text (token at).place
      s = place_stands ground text at (token at) refl

      go : (b : Bool) → eqb (token at).kind 20 ≡ b → Stands text (to_dot (end_of text) (placed_from ground text at)) × Within text (to_dot (end_of text) (placed_from ground text at))
      go true e = rw (no_token ground text at (token at) refl (eqb-true (token at).kind 20 e)) (s, place_within ground text at (token at) refl)
      go false e =
          let i = dot_inside ground text at in
          rw (first_to_dot ground text at (token at) refl (eqb-false (token at).kind 20 e)) (record { inside = s.inside; line = s.line; column = s.column }, omega (arith, s.inside))

  pub sentence_stands : (k : ℕ) → Stands text (sentence ground text k)
  sentence_stands k = let r = reached ground text k in rw (inv (reached_sentence ground text k r.0 r.1)) (to_dot_inside r.0).0

  pub sentence_inside : (k : ℕ) → Within text (sentence ground text k)
  sentence_inside k = let r = reached ground text k in rw (inv (reached_sentence ground text k r.0 r.1)) (to_dot_inside r.0).1
