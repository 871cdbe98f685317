-- Laws of `token_at`: the token at a place, by the class of the byte there and what was read behind it.
use Prim.Native.Nat.{ℕ, suc, ◌+◌, ◌-◌, ◌<◌, ◌≤◌}
use native.Mathlib.Nat.{add-zero}
use native.Mathlib.Omega.{arith}
use mathlib.Core.Path.{◌≡◌, sym, ap, ◌∙◌}
use mathlib.Core.List.{List}
use lib.ListN.{length, get_or, drop, drop_of_length-le}
use lib.Seq.{get_or-drop}
use borrow.Author.Tests.{eq-eqb, ne_eqb}
use Rattle.lexis.specs.declared.class.Class.{Class}
use Rattle.lexis.specs.declared.class.Class.TheVariants.{Lower, Upper, Digit, Underscore, Other}
use Rattle.lexis.specs.declared.run.Run.TheVariants.{Word, Digits}
use Rattle.lexis.specs.declared.kind.Kind.{Kind}
use Rattle.texts.specs.declared.place.Place.{Place}
use Rattle.lexis.specs.declared.kind.Kind.TheVariants.{Variable, Anonymous, Number, End}
use Rattle.lexis.specs.Class.{class_of}
use Rattle.lexis.specs.Run.{goes_on}
use Rattle.texts.specs.Prefix.{prefix_len}
use Rattle.lexis.specs.Spelling.{name_kind}
use Rattle.tokens.specs.Token.{standing, placed, mark_at, string_at, other_at, start_at, token_at}
use Rattle.texts.specs.Place.{place_from, Stands}
use Rattle.texts.proofs.Prefix.{drop_at}
use Rattle.texts.proofs.Counting.{line_past, column_past}

pub end_at : (s : List ℕ) (at : ℕ) → length s ≤ at → token_at s at ≡ placed s End (length s) 0
unfolding token_at
end_at s at h = rw (drop_of_length-le s h)

pub starts_at : (s : List ℕ) (at : ℕ) → at < length s → token_at s at ≡ start_at (place_from s at 0) (class_of (get_or s at 0)) (get_or s at 0) (drop (at + 1) s)
unfolding token_at
starts_at s at h = rw (drop_at s at h)

-- a token made where a place stands is the text's
module _ (s : List ℕ) (p : Place) (stands : Stands s p) where
  pub as_placed : (kind : Kind) (len : ℕ) → standing kind p len ≡ placed s kind p.start len
  as_placed kind len = rw (stands.line, stands.column)

  pub as_other : (b : ℕ) (rest : List ℕ) → other_at p b rest ≡ other_at (place_from s p.start 0) b rest
  unfolding other_at string_at mark_at
  as_other b rest = rw (stands.line, stands.column)

  pub as_end : length s ≤ p.start → standing End (record { start = length s; len = 0; line = p.line; column = p.column }) 0 ≡ placed s End (length s) 0
  as_end h = rw (stands.line, stands.column, line_past s p.start h, column_past s p.start h)

module _ (s : List ℕ) (at : ℕ) (h : at < length s) (class : Class) (e : class ≡ class_of (get_or s at 0)) where
  by_class : (k : Class) → class ≡ k → token_at s at ≡ start_at (place_from s at 0) k (get_or s at 0) (drop (at + 1) s)
  by_class k q = starts_at s at h ∙ ap (λ (c : Class). start_at (place_from s at 0) c (get_or s at 0) (drop (at + 1) s)) (sym e ∙ q)

  second : get_or (drop (at + 1) s) 0 0 ≡ get_or s (at + 1) 0
  second = rw (get_or-drop (at + 1) s 0 0, add-zero (at + 1))

  third : get_or (drop (at + 1) s) 1 0 ≡ get_or s (at + 1 + 1) 0
  third = get_or-drop (at + 1) s 1 0

  pub name_at : class ≡ Lower → (end b c : ℕ) (kind : Kind) → end ≡ (at + 1) + prefix_len (goes_on Word) (drop (at + 1) s) → b ≡ get_or s (at + 1) 0 → c ≡ get_or s (at + 1 + 1) 0
      → kind ≡ name_kind (end - at) (get_or s at 0) b c → placed s kind at (end - at) ≡ token_at s at
  name_at q end b c kind ee eb ec ek =
      let len : end - at ≡ suc (prefix_len (goes_on Word) (drop (at + 1) s)) = omega arith in
      rw (by_class Lower q, ek, eb, ec, len, second, third)

  pub variable_at : class ≡ Upper → (end : ℕ) → end ≡ (at + 1) + prefix_len (goes_on Word) (drop (at + 1) s) → placed s Variable at (end - at) ≡ token_at s at
  variable_at q end ee =
      let len : end - at ≡ suc (prefix_len (goes_on Word) (drop (at + 1) s)) = omega arith in
      rw (by_class Upper q, len)

  pub zero_at : class ≡ Digit → get_or s at 0 ≡ 48 → placed s Number at 1 ≡ token_at s at
  zero_at q z = rw (by_class Digit q, eq-eqb _ _ z)

  pub number_at : class ≡ Digit → (get_or s at 0 ≡ 48 → ⊥) → (end : ℕ) → end ≡ (at + 1) + prefix_len (goes_on Digits) (drop (at + 1) s) → placed s Number at (end - at) ≡ token_at s at
  number_at q z end ee =
      let len : end - at ≡ suc (prefix_len (goes_on Digits) (drop (at + 1) s)) = omega arith in
      rw (by_class Digit q, ne_eqb _ _ z, len)

  pub anonymous_at : class ≡ Underscore → placed s Anonymous at 1 ≡ token_at s at
  anonymous_at q = rw (by_class Underscore q)

  pub other_at_lem : class ≡ Other → other_at (place_from s at 0) (get_or s at 0) (drop (at + 1) s) ≡ token_at s at
  other_at_lem q = rw (by_class Other q)
