-- The variables met in a rule: the number of one among them, and one more.
use mathlib.Core.Path.{◌≡◌, refl, sym as inv, ap, ◌∙◌}
use mathlib.Core.Bool.{Bool, true, false, cond}
use mathlib.Core.Option.{Option, none, some}
use mathlib.Core.List.{List, [], ◌∷◌, ◌++◌, map, map-append}
use Prim.Native.Nat.{ℕ, suc, ◌+◌, ◌≤◌, ◌<◌}
use native.Mathlib.Omega.{arith}
use native.Mathlib.Numerals.{add-one}
use lib.ListN.{length, drop, get_or, length-append, drop_of_length-le, get_or-map, length-map}
use lib.Seq.{drop-cons}
use borrow.Author.Tests.{lt-ltb, le-ltb}
use Rattle.texts.specs.declared.place.Place.{Place}
use Rattle.texts.specs.Place.{text_start}
use Rattle.texts.specs.Places.{places_in, place_in}
use Rattle.texts.specs.Parts.{part}
use Rattle.lexis.specs.Kind.{kind_number}
use Rattle.lexis.specs.Class.{class_of}
use Rattle.lexis.specs.Spelling.{kind_of}
use Rattle.lexis.proofs.KindNumber.{kind_at}
use Rattle.texts.proofs.PlaceTables.{places_length, place_among}
use Rattle.tokens.proofs.Spelled.{spells}
use Rattle.reading.specs.Reading.{◌▹◌}
use Rattle.meaning.specs.Rules.{Bytes}
use Rattle.meaning.specs.Values.{same_bytes}
use Rattle.meaning.proofs.Facts.{same_bytes_sound}
use Rattle.grammar.specs.Variables.{Variables as Names, number_of, with_variable}
use Rattle.grammar.proofs.Variables.{number_at_most}
use Rattle.syntax.specs.Variables.{variable_at, variables_of, Fits, first_among}

-- ---- how many there are, and one more

module _ (text : Bytes) (v : List Place) where
  pub count_names : length (variables_of text v) ≡ length v
  unfolding variables_of
  count_names = length-map v _

  module _ (place : Place) where
    pub one_more : length v < 16 → Fits (v ++ (place ∷ []))
    one_more room = omega (arith, length-append v (place ∷ []))

    pub more_names : variables_of text (v ++ (place ∷ [])) ≡ variables_of text v ▹ variable_at (part text place)
    unfolding variables_of
    more_names = map-append (λ p. variable_at (part text p)) v (place ∷ [])

-- ---- the number of one

-- bytes that are no `_`
pub named : (b : Bytes) → kind_of b ≡ kind_at 2 → same_bytes b (95 ∷ []) ≡ false
unfolding kind_of class_of
named b e = go (same_bytes b (95 ∷ [])) refl
  where
    go : (t : Bool) → same_bytes b (95 ∷ []) ≡ t → same_bytes b (95 ∷ []) ≡ false
    go true q = let z : b ≡ 95 ∷ [] = same_bytes_sound b (95 ∷ []) q in let y : ◌≡◌ {A = ℕ} 3 2 = ap kind_number (rw z at e) in absurd (omega arith)
    go false q = q

module _ (b : Bytes) (no_underscore : same_bytes b (95 ∷ []) ≡ false) where
  number_by : (c : Bytes) (vs : Names) → number_of b (variable_at c ∷ vs) ≡ cond (same_bytes b c) 0 (suc (number_of b vs))
  unfolding number_of variable_at
  number_by c vs = go (same_bytes c (95 ∷ [])) refl
    where
      go : (t : Bool) → same_bytes c (95 ∷ []) ≡ t → number_of b (cond (same_bytes c (95 ∷ [])) none (some c) ∷ vs) ≡ cond (same_bytes b c) 0 (suc (number_of b vs))
      go true q = let z : c ≡ 95 ∷ [] = same_bytes_sound c (95 ∷ []) q in rw (q, z, no_underscore)
      go false q = rw q

  -- the first place with the same bytes is the number
  pub number_among : (text : Bytes) (places : List Place) → first_among b (map (part text) places) ≡ number_of b (map (λ p. variable_at (part text p)) places)
  unfolding first_among number_of
  number_among text [] = refl
  number_among text (p ∷ places) = rw (number_among text places) (inv (number_by (part text p) (map (λ q. variable_at (part text q)) places)))

-- ---- the search for it, in a table of places

module _ (text : Bytes) (b : Bytes) (table : List ℕ) (met i : ℕ) where
  abbrev pub met_names : List Bytes
  met_names = map (part text) (places_in table met)

  how_many : length met_names ≡ met
  how_many = length-map (places_in table met) (part text) ∙ places_length table met

  module _ (h : i < met) (x y : Bytes) (ex : x ≡ b) (p : Place) (ep : p ≡ place_in table i) (ey : y ≡ part text p) (r : Bool) (er : r ≡ same_bytes x y) where
    same_here : same_bytes b (get_or met_names i []) ≡ r
    same_here = ap (same_bytes b) (get_or-map (part text) (places_in table met) i text_start ∙ ap (part text) (place_among table met i text_start h ∙ inv ep) ∙ inv ey) ∙ ap (λ z. same_bytes z y) (inv ex) ∙ inv er

    pub among_here : r ≡ true → first_among b (drop i met_names) ≡ 0
    unfolding first_among
    among_here e = rw (drop-cons met_names i [] (rw how_many h), same_here, e)

    pub among_on : r ≡ false → first_among b (drop i met_names) ≡ suc (first_among b (drop (i + 1) met_names))
    unfolding first_among
    among_on e = rw (drop-cons met_names i [] (rw how_many h), same_here, e, add-one i)

  pub among_end : met ≤ i → first_among b (drop i met_names) ≡ 0
  unfolding first_among
  among_end h = let z : length met_names ≤ i = rw how_many h in rw (drop_of_length-le met_names z)

-- ---- what meeting one does

module _ (text : Bytes) (v : List Place) (place : Place) (no_underscore : same_bytes (part text place) (95 ∷ []) ≡ false) (n : ℕ) (en : n ≡ first_among (part text place) (map (part text) v)) where
  abbrev vs : Names
  vs = variables_of text v

  pub number_is : number_of (part text place) vs ≡ n
  unfolding variables_of
  number_is = inv (en ∙ number_among (part text place) no_underscore text v)

  pub number_in_count : n ≤ length v
  number_in_count = omega (arith, number_at_most (part text place) vs, number_is, count_names text v)

  pub known : n < length v → with_variable vs (part text place) ≡ vs
  unfolding with_variable
  known h = rw (number_is, count_names text v, lt-ltb n (length v) h)

  pub unknown : length v ≤ n → with_variable vs (part text place) ≡ vs ▹ some (part text place)
  unfolding with_variable
  unknown h = rw (number_is, count_names text v, le-ltb n (length v) h)

  pub added : variables_of text (v ++ (place ∷ [])) ≡ vs ▹ some (part text place)
  unfolding variable_at
  added = more_names text v place ∙ rw no_underscore

-- the bytes of `_`
pub underscored : (b : Bytes) → kind_of b ≡ kind_at 3 → variable_at b ≡ none
unfolding variable_at same_bytes
underscored b e = let z : b ≡ 95 ∷ [] = rw e at (spells b (rw e)) in rw z

pub length_more : (vs : Names) (x : Option Bytes) → length (vs ▹ x) ≡ suc (length vs)
length_more vs x = rw length-append (omega arith)
