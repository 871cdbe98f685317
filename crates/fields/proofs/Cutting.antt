-- A slice of a text from the lesser of a start and its length on is the part there.
use mathlib.Core.Path.{◌≡◌, refl, sym, ap, ◌∙◌}
use Prim.Native.Nat.{ℕ, ◌+◌, ◌-◌, ◌≤◌, min}
use native.Mathlib.Decide.{dec_lt}
use native.Mathlib.Omega.{arith}
use lib.ListN.{length, take, drop, length-drop, drop_of_length-le}
use lib.Seq.{take_all, take-nil}
use Rattle.texts.specs.declared.place.Place.{Place}
use Rattle.texts.specs.Parts.{part}
use Rattle.meaning.specs.Rules.{Bytes}
use Rattle.fields.specs.declared.answer.Text.TheVariants.{Program, Output}
use Rattle.fields.specs.declared.answer.Part.{Part as PartValue}
use Rattle.fields.specs.Parts.{Memory, Cut, HandedBack}

module _ (text : Bytes) (place : Place) where
  past : length text ≤ place.start → (count : ℕ) → count ≡ 0 → (start : ℕ) → take count (drop start text) ≡ part text place
  past h count e start = ap (λ (n : ℕ). take n (drop start text)) e ∙ sym (take-nil place.len) ∙ ap (λ (l : Bytes). take place.len l) (sym (drop_of_length-le text h))

  -- as many as there are
  inside : (count : ℕ) → count ≡ min place.len (length text - place.start) → take count (drop place.start text) ≡ part text place
  inside count e =
      let l = length-drop place.start text in
      elim (dec_lt (length text - place.start) place.len) [
        | yes h ↦ take_all count (drop place.start text) (omega (arith, l, e, h)) ∙ sym (take_all place.len (drop place.start text) (omega (arith, l, h)))
        | no h ↦ (let z : count ≡ place.len = omega (arith, e, h) in ap (λ (n : ℕ). take n (drop place.start text)) z)
      ]

  same_bytes : (start : ℕ) → start ≡ min place.start (length text) → (count : ℕ) → count ≡ min place.len (length text - start) → take count (drop start text) ≡ part text place
  same_bytes start e count f =
      elim (dec_lt (length text) place.start) [
        | yes h ↦ past (omega (arith, h)) count (omega (arith, e, f, h)) start
        | no h ↦ (let z : start ≡ place.start = omega (arith, e, h) in ap (λ (n : ℕ). take count (drop n text)) z ∙ inside count (f ∙ ap (λ (n : ℕ). min place.len (length text - n)) z))
      ]

  pub is_cut : (from : Memory) (start : ℕ) → start ≡ min place.start (length text) → (count : ℕ) → count ≡ min place.len (length text - start) → Cut text from place (take (start + count - start) (drop start text)) (from.0, start + from.1)
  is_cut from start e count f =
      let z : start + count - start ≡ count = omega arith in
      record { same = ap (λ (n : ℕ). take n (drop start text)) z ∙ same_bytes start e count f; block = refl; offset = omega (arith, e) }

-- the text that is named
module _ (p : Bytes) (from : Memory) (o : Bytes) (from' : Memory) (x : PartValue) (bytes : Bytes) (at : Memory) where
  pub of_program : x.text ≡ Program → Cut p from x.place bytes at → HandedBack p from o from' x bytes at
  of_program e h = rw e h

  pub of_output : x.text ≡ Output → Cut o from' x.place bytes at → HandedBack p from o from' x bytes at
  of_output e h = rw e h
