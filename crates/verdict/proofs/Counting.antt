-- Positions that are counted from 1, one after the other.
use mathlib.Core.Path.{◌≡◌, refl, sym, ap, ◌∙◌}
use mathlib.Core.List.{List, map}
use Prim.Native.Nat.{ℕ, zero, suc, ◌+◌, ◌<◌, min}
use native.Mathlib.Decide.{ℕ_discrete}
use native.Mathlib.Numerals.{add-one}
use native.Mathlib.Omega.{arith}
use lib.ListN.{length, get_or, set, take, replicate, length-set, length-take, length-map}
use Rattle.std.proofs.lemmas.List.{get_or-map}
use lib.Seq.{get_or-set_same, get_or-set_other, get_or-take, ext_get_or}
use Rattle.grammar.specs.Sizes.{most_literals}
use Rattle.verdict.specs.Told.{FromOne}

zeros : (n k : ℕ) → ◌≡◌ {A = ℕ} (get_or (replicate n 0) k 0) 0
zeros zero k = refl
zeros (suc n) zero = refl
zeros (suc n) (suc k) = zeros n k

pub counted_none : (ps : List ℕ) → length ps ≡ most_literals → FromOne 0 ps (replicate most_literals 0)
counted_none ps room = record { room = room; long = refl; each = λ i l. absurd (omega arith); behind = λ i l. zeros most_literals i }

pub counted_more : (ps qs : List ℕ) (i : ℕ) → i < most_literals → FromOne i ps qs → FromOne (i + 1) ps (set qs i (get_or ps i 0 + 1))
counted_more ps qs i l c =
    record {
      room = c.room;
      long = length-set qs i _ ∙ c.long;
      each = λ j k. elim (ℕ_discrete i j) [
        | yes e ↦ rw (← e) (get_or-set_same qs i _ 0 (omega (arith, c.long)))
        | no n ↦ get_or-set_other qs i j _ 0 (λ e. n (sym e)) ∙ c.each j (omega (arith, n))
      ];
      behind = λ j k. get_or-set_other qs i j _ 0 (λ e. omega (arith, e)) ∙ c.behind j (omega arith);
    }

-- the positions as the paper has them
pub from_one_taken : (n : ℕ) (ps qs : List ℕ) → FromOne (min n most_literals) ps qs → take (min n most_literals) qs ≡ map suc (take n ps)
from_one_taken n ps qs h =
    let long : length (take (min n most_literals) qs) ≡ length (map suc (take n ps)) = omega (arith, length-take (min n most_literals) qs, h.long, h.room, length-take n ps, length-map (take n ps) suc) in
    ext_get_or 0 (take (min n most_literals) qs) (map suc (take n ps)) long (λ i l.
    let few : i < min n most_literals = omega (arith, l, length-take (min n most_literals) qs) in
    let inside : i < length (take n ps) = omega (arith, l, long, length-map (take n ps) suc) in
    get_or-take (min n most_literals) qs i 0 few ∙ h.each i few ∙ add-one (get_or ps i 0) ∙ ap suc (sym (get_or-take n ps i 0 (omega (arith, few)))) ∙ sym (get_or-map suc (take n ps) i 0 0 inside))
