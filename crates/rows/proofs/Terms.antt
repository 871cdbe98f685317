-- Numbers of terms: what stands for a name, a string, a number and a variable.
use mathlib.Core.Path.{◌≡◌, refl}
use mathlib.Core.Bool.{Bool, true, false}
use mathlib.Core.List.{List, ◌∷◌}
use Prim.Native.Nat.{ℕ, zero, suc, ◌+◌, ◌-◌, ◌≤◌, ◌<◌}
use native.Mathlib.Omega.{arith}
use lib.IntN.{ℤ}
use borrow.Author.Tests.{lt-ltb, le-ltb}
use Rattle.meaning.specs.Rules.{Bytes, constant, variable}
use Rattle.meaning.specs.Values.{Value, number, name, string, in_range}
use Rattle.codes.specs.Codes.{no_value, zero_code, first_name, first_string, number_code, quote, Coded, as_number}
use Rattle.codes.specs.Related.{both_constant, both_variable}
use Rattle.codes.proofs.Numbers.{range_up, range_down, number_least, code_is_number}
use Rattle.tables.specs.Rows.{term_of}
use Rattle.syntax.specs.Terms.{signed}
use Rattle.std.specs.Prelude.{Some}
use Rattle.names.specs.Numbering.{Interns}
use Rattle.names.proofs.Numbered.{interned_name, interned_string}
use Rattle.rows.specs.Coding.{CodedTerm, Codes}
use Rattle.rows.proofs.Growth.{grows_interned}

-- ---- numbers

pub signed_small : (s : Bool) (n : ℕ) → in_range (number (signed s n)) ≡ true → n ≤ 1_000_000_000
unfolding signed
signed_small true zero h = omega arith
signed_small true (suc n) h = omega (arith, range_down n h)
signed_small false n h = range_up n h

pub behind_minus : (n : ℕ) → zero_code - n ≡ number_code (signed true n)
unfolding signed number_code
behind_minus zero = refl
behind_minus (suc n) = refl

pub with_no_minus : (n : ℕ) → zero_code + n ≡ number_code (signed false n)
unfolding signed number_code
with_no_minus n = refl

-- ---- the numbers stand for the terms

module _ (names : List Bytes) where
  constant_at : (c : ℕ) → 16 ≤ c → term_of c ≡ constant c
  unfolding term_of
  constant_at c h = rw (le-ltb c 16 h)

  -- a value's code, as a term
  pub coded_constant : {c : ℕ} {v : Value} → Coded names c v → no_value < c → CodedTerm names c (constant v)
  coded_constant {c} h l = record { related = rw (constant_at c (omega arith)) (both_constant h); valued = λ q. omega arith }

  pub coded_number_term : (c : ℕ) (z : ℤ) → c ≡ number_code z → in_range (number z) ≡ true → CodedTerm names c (constant (number z))
  coded_number_term c z e h = let k = number_least (number_code z) (code_is_number z h) in coded_constant (as_number z e h) (omega arith)

  pub coded_variable_term : (x : ℕ) → x < 16 → CodedTerm names x (variable x)
  unfolding term_of
  coded_variable_term x h = record { related = rw (lt-ltb x 16 h) (both_variable x); valued = λ q. omega arith }

-- a name, or a string as its text without the closing quote, that is interned
module _ (program output : Bytes) (names : List ℕ) (b : Bytes) (names' : List ℕ) (i : ℕ) (h : Interns program output names b names' (Some i)) where
  pub name_coded : Codes program output names 1 (λ ns. CodedTerm ns (first_name + i) (constant (name b))) names'
  name_coded = record { grows = grows_interned program output names b names' i h; coded = coded_constant _ (interned_name program output names b names' i h) (omega arith) }

  pub string_coded : (s : Bytes) → b ≡ quote ∷ s → Codes program output names 1 (λ ns. CodedTerm ns (first_string + i) (constant (string s))) names'
  string_coded s e = record { grows = grows_interned program output names b names' i h; coded = coded_constant _ (interned_string program output names b names' i h s e) (omega arith) }
