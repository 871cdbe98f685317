-- What the functions that read a term return, by the tests that led there.
use mathlib.Core.Path.{◌≡◌, refl, ap, sym as inv, ◌∙◌}
use mathlib.Core.Bool.{Bool, true, false, not, cond}
use mathlib.Core.List.{List, [], ◌∷◌, ◌++◌, map}
use Prim.Native.Nat.{ℕ, zero, suc, ◌+◌, ◌-◌, ◌≤◌, ◌<◌}
use native.Mathlib.Omega.{arith}
use lib.Dec.{leb}
use lib.ListN.{length, take, drop, length-take, length-drop}
use lib.Seq.{take-take}
use borrow.Author.Tests.{leb-true, le-leb, ne_eqb}
use Rattle.std.specs.Prelude.{Some, Result, Ok, Err}
use Rattle.texts.specs.declared.place.Place.{Place}
use Rattle.texts.specs.declared.refusal.Refusal.TheVariants.{LargeNumber, OverSize, Misplaced}
use Rattle.texts.specs.declared.refusal.Refused.{Refused}
use Rattle.lexis.specs.declared.kind.Kind.TheVariants.{String}
use Rattle.lexis.specs.Kind.{kind_number, is_end, is_stray}
use Rattle.lexis.specs.Spelling.{kind_of}
use Rattle.lexis.specs.Number.{capped, decimal}
use Rattle.lexis.specs.Strings.{quote, IsString, between}
use Rattle.texts.specs.Place.{past, with_len}
use Rattle.texts.specs.Places.{places_in, with_place}
use Rattle.tokens.specs.Token.{next_token}
use Rattle.texts.specs.Parts.{part}
use Rattle.lexis.proofs.Strings.{string_long, string_opened}
use Rattle.tokens.proofs.Spelled.{spells}
use Rattle.tokens.proofs.Next.{not_empty}
use Rattle.texts.proofs.PlaceTables.{places_length, places_more, stands_storable}
use Rattle.meaning.specs.Rules.{Bytes}
use Rattle.meaning.specs.Values.{number, in_range}
use Rattle.grammar.specs.Sizes.{greatest_number, most_bytes}
use Rattle.codes.specs.Codes.{first_name, first_string, number_code}
use Rattle.names.specs.Numbering.{Interns}
use Rattle.syntax.specs.declared.token.TokenRead.{TokenRead}
use Rattle.syntax.specs.Text.{token_read, next_of}
use Rattle.syntax.specs.Variables.{Fits, first_among}
use Rattle.syntax.specs.Fills.{Goes, Stops, Fills}
use Rattle.syntax.specs.Terms.{term_in, signed}
use Rattle.syntax.proofs.Readings.{stops_as, goes_as}
use Rattle.syntax.proofs.Tokens.{place_within, place_stands, part_length, forward, spelled_here}
use Rattle.syntax.proofs.Terms as laws
use Rattle.rows.specs.Coding.{Codes}
use Rattle.rows.proofs.Growth.{grows_none}
use Rattle.rows.proofs.Terms.{coded_number_term, coded_variable_term, name_coded, string_coded}
use Rattle.terms.specs.declared.cursor.Cursor.{Cursor}
use Rattle.terms.specs.declared.term.TermRead.{TermRead}
use Rattle.terms.specs.Cursors.{variables_size, ReadyCursor, met_before}
use Rattle.terms.specs.Terms.{ReadsTerm, Nameless, ReadsNegative, Puttable, ReadsNameless, number_term}
use Rattle.terms.proofs.Readiness.{met_fits, codes_wider}

-- ---- numbers

pub signed_range : (s : Bool) (n : ℕ) → n ≤ 1_000_000_000 → in_range (number (signed s n)) ≡ true
unfolding in_range signed
signed_range true zero h = refl
signed_range true (suc n) h = rw (le-leb n 999_999_999 (omega arith))
signed_range false n h = rw (le-leb n 1_000_000_000 h)

module _ (ground : Bool) (text : Bytes) (at : ℕ) (t : TokenRead) (et : t ≡ token_read ground text at) (ek : t.kind ≡ 4) where
  abbrev value : ℕ
  value = capped (decimal (part text t.place))

  -- a number, where a term is wanted
  pub term_number : (over : Bool) (places : ℕ → List Place) (met : ℕ) → Fits (places met) → (r : Result TermRead Refused) → r ≡ number_term text t false over met → Fills (term_in ground over) over text at (places met) r (λ a. a.behind) (λ a. places a.met) (λ a. Nameless a.number)
  unfolding number_term
  term_number over places met fits r er = rw er (go (leb value greatest_number) refl over refl)
    where
      go : (b : Bool) → leb value greatest_number ≡ b → (o : Bool) → over ≡ o → Fills {A = TermRead} (term_in ground over) over text at (places met) (cond b (cond o (Err (record { refusal = OverSize; place = t.place })) (Ok (record { number = number_code (signed false value); behind = past t.place; met = met }))) (Err (record { refusal = LargeNumber; place = t.place }))) (λ a. a.behind) (λ a. places a.met) (λ a. Nameless a.number)
      go true q true o = laws.term_many ground over text at t et (places met) ek q o
      go true q false o = laws.term_small ground over text at t et (places met) ek q fits o (λ names. coded_number_term names _ _ refl (signed_range false _ (leb-true _ 1_000_000_000 q)))
      go false q o e = laws.term_big ground over text at t et (places met) ek q

  -- the number behind a minus
  pub negative_number : (met : ℕ) (r : Result TermRead Refused) → r ≡ number_term text t true false met → ReadsNegative ground text at met r
  unfolding number_term
  negative_number met r er = rw er (go (leb value greatest_number) refl)
    where
      go : (b : Bool) → leb value greatest_number ≡ b → ReadsNegative ground text at met (cond b (Ok (record { number = number_code (signed true value); behind = past t.place; met = met })) (Err (record { refusal = LargeNumber; place = t.place })))
      go true q = record { same_met = refl; reads = λ v fits. laws.negative_small ground false text at t et v ek q fits (λ names. coded_number_term names _ _ refl (signed_range true _ (leb-true _ 1_000_000_000 q))) }
      go false q = record { same_met = tt; reads = λ v fits. laws.negative_big ground false text at t et v ek q }

pub negative_wrong : (ground : Bool) (text : Bytes) (at : ℕ) (t : TokenRead) → t ≡ token_read ground text at → (t.kind ≡ 4 → ⊥) → (met : ℕ) → ReadsNegative ground text at met (Err (record { refusal = Misplaced; place = t.place }))
negative_wrong ground text at t et ne met = record { same_met = tt; reads = λ v fits. laws.negative_wrong ground false text at t et v ne }

-- ---- the bytes of a token: a name is not empty ..

pub name_filled : (ground : Bool) (text : Bytes) (at : ℕ) (t : TokenRead) → t ≡ token_read ground text at → t.kind ≡ 0 → part text t.place ≡ [] → ⊥
name_filled ground text at t et ek h =
    let e : is_end (next_token (not ground) text at).kind ≡ false = ne_eqb (kind_number (next_token (not ground) text at).kind) 20 (λ q. let k = rw et at ek in omega arith) in
    let l : 1 ≤ t.place.len = rw et (not_empty (not ground) text at e) in
    let n = part_length ground text at t et in
    let z : length (part text t.place) ≡ 0 = ap length h in
    omega arith

-- .. nor is the part that has the first of its bytes
pub part_filled : (ground : Bool) (text : Bytes) (at : ℕ) (t : TokenRead) → t ≡ token_read ground text at → (p : Place) → p.start ≡ t.place.start → 1 ≤ p.len → p.len ≤ t.place.len → part text p ≡ [] → ⊥
part_filled ground text at t et p same l m h =
    let w = place_within ground text at t et in
    let z : length (part text p) ≡ p.len = simp (length-take, length-drop) (omega arith) in
    omega (arith, ap length h)

-- a string: it has two quotes, and without the closing one it is the opening one and the bytes between
module _ (ground : Bool) (text : Bytes) (at : ℕ) (t : TokenRead) (et : t ≡ token_read ground text at) (ek : t.kind ≡ 22) where
  is_string : IsString (part text t.place)
  is_string =
      let k : kind_of (part text t.place) ≡ String = rw ek at (spelled_here ground text at t et (λ q. omega arith)) in
      rw k at (spells (part text t.place) (ap is_stray k))

  pub string_quotes : 2 ≤ t.place.len
  string_quotes = omega (arith, string_long (part text t.place) is_string, part_length ground text at t et)

  string_opened_here : part text (with_len t.place (t.place.len - 1)) ≡ quote ∷ between (part text t.place)
  string_opened_here =
      inv (take-take (t.place.len - 1) t.place.len (drop t.place.start text) (omega arith))
      ∙ ap (λ (n : ℕ). take (n - 1) (part text t.place)) (inv (part_length ground text at t et))
      ∙ string_opened (part text t.place) is_string

-- ---- a variable, in a program

module _ (over : Bool) (text : Bytes) (at : ℕ) (t : TokenRead) (et : t ≡ token_read false text at) (variables : List ℕ) (met : ℕ) (few : met ≤ 16) where
  abbrev v : List Place
  v = places_in variables met

  how_many : length v ≡ met
  how_many = places_length variables met

  more : variables_size ≤ length variables → met < 16 → (variables' : List ℕ) → variables' ≡ with_place variables met t.place → places_in variables' (met + 1) ≡ v ++ (t.place ∷ [])
  more long h variables' e = rw e (places_more variables met t.place (omega arith))

  module _ (ek : t.kind ≡ 2) where
    pub variable_stops : (over ≡ false → most_bytes < t.place.len) → Stops (term_in false over) text at v (record { refusal = OverSize; place = t.place })
    variable_stops l = laws.variable_stops over text at t et v ek l

    module _ (n : ℕ) (en : n ≡ first_among (part text t.place) (map (part text) v)) where
      pub variable_many : met ≤ n → 16 ≤ n → Stops (term_in false over) text at v (record { refusal = OverSize; place = t.place })
      variable_many k l = laws.variable_many over text at t et v ek n en (omega (arith, how_many)) l

      module _ (l : t.place.len ≤ most_bytes) (o : over ≡ false) where
        pub variable_known : n < met → Goes (term_in false over) over text at v (past t.place) v (Nameless n)
        variable_known k = laws.variable_known over text at t et v ek n en l o (λ names. coded_variable_term names n (omega arith)) (omega (arith, how_many)) (omega (arith, how_many))

        pub variable_new : variables_size ≤ length variables → met ≤ n → n < 16 → (variables' : List ℕ) → variables' ≡ with_place variables met t.place → Goes (term_in false over) over text at v (past t.place) (places_in variables' (met + 1)) (Nameless n)
        variable_new long k q variables' ev = rw (more long (omega arith) variables' ev) (laws.variable_new over text at t et v ek n en l o (λ names. coded_variable_term names n (omega arith)) (omega (arith, how_many)) (λ h. omega arith))

  module _ (ek : t.kind ≡ 3) where
    pub anonymous_over : over ≡ true → Stops (term_in false over) text at v (record { refusal = OverSize; place = t.place })
    anonymous_over o = laws.anonymous_over over text at t et v ek o

    pub anonymous_many : 16 ≤ met → Stops (term_in false over) text at v (record { refusal = OverSize; place = t.place })
    anonymous_many l = laws.anonymous_many over text at t et v ek (omega (arith, how_many))

    pub anonymous_new : variables_size ≤ length variables → over ≡ false → met < 16 → (variables' : List ℕ) → variables' ≡ with_place variables met t.place → Goes (term_in false over) over text at v (past t.place) (places_in variables' (met + 1)) (Nameless met)
    anonymous_new long o q variables' ev = rw (more long (omega arith) variables' ev) (laws.anonymous_new over text at t et v ek o (omega (arith, how_many)) (λ names. rw how_many (coded_variable_term names met (omega arith))))

-- ---- any term

-- the place of its token fits the variables' table
pub puttable : (program output text : Bytes) (names variables : List ℕ) (k : Cursor) → ReadyCursor program output text names variables k → (t : TokenRead) → t ≡ token_read k.ground text k.at.start → Puttable variables t k.met
puttable program output text names variables k ready t et = let w = place_within k.ground text k.at.start t et in let h = ready.short in record { few = ready.few; long = ready.long; fits = stands_storable text t.place (place_stands k.ground text k.at.start t et) w ready.short }

-- a term that is no name and no string
module _ (text : Bytes) (variables : List ℕ) (k : Cursor) (few : k.met ≤ 16) (t : TokenRead) (et : t ≡ token_read k.ground text k.at.start) where
  abbrev Reads : Result TermRead Refused → List ℕ → Type 0
  Reads r variables' = ReadsNameless k.ground k.over text k.at.start variables k.met r variables'

  abbrev vs : List Place
  vs = met_before variables k

  fits : Fits vs
  fits = omega (arith, places_length variables k.met)

  pub number_goes : t.kind ≡ 4 → (r : Result TermRead Refused) → r ≡ number_term text t false k.over k.met → Reads r variables
  number_goes ek r er = term_number k.ground text k.at.start t et ek k.over (places_in variables) k.met fits r er

  -- the number behind a minus
  pub minus_goes : t.kind ≡ 10 → k.over ≡ false → (r : Result TermRead Refused) → ReadsNegative k.ground text (next_of t) k.met r → Reads r variables
  minus_goes ek o (Ok a) g = rw g.same_met (goes_as (laws.minus_around k.ground k.over text k.at.start t et vs ek o) (Nameless a.number) (λ m l s. s) (g.reads vs fits))
  minus_goes ek o (Err e) g = stops_as (laws.minus_around k.ground k.over text k.at.start t et vs ek o) (g.reads vs fits)

  -- refusals

  pub minus_over : t.kind ≡ 10 → k.over ≡ true → Stops (term_in k.ground k.over) text k.at.start vs (record { refusal = OverSize; place = t.place })
  minus_over ek o = laws.minus_over k.ground k.over text k.at.start t et vs ek o

  module _ (a : t.kind ≡ 0 → ⊥) (s : t.kind ≡ 22 → ⊥) (b : t.kind ≡ 4 → ⊥) (c : t.kind ≡ 10 → ⊥) where
    pub ground_wrong : k.ground ≡ true → Stops (term_in k.ground k.over) text k.at.start vs (record { refusal = Misplaced; place = t.place })
    ground_wrong g = laws.ground_wrong k.ground k.over text k.at.start t et vs a s b c g

    pub free_wrong : k.ground ≡ false → (t.kind ≡ 2 → ⊥) → (t.kind ≡ 3 → ⊥) → Stops (term_in k.ground k.over) text k.at.start vs (record { refusal = Misplaced; place = t.place })
    free_wrong g d e = laws.free_wrong k.ground k.over text k.at.start t et vs a s b c g d e

module _ (program output text : Bytes) (names variables : List ℕ) (k : Cursor) (ready : ReadyCursor program output text names variables k) where
  -- a term that is no name and no string leaves the names as they are
  pub nameless : (r : Result TermRead Refused) (variables' : List ℕ) → ReadsNameless k.ground k.over text k.at.start variables k.met r variables' → ReadsTerm program output text names variables k r names variables'
  nameless (Ok a) variables' g = record { forward = g.forward; stands = g.stands; kept = g.kept; fits = g.fits; tree = g.tree; means = record { grows = grows_none program output names _ ready.room.in_order; coded = g.means _ }; names = g.names; ahead = g.ahead }
  nameless (Err e) variables' g = g

  module _ (t : TokenRead) (et : t ≡ token_read k.ground text k.at.start) where
    -- the table grows by one, and the token has a byte
    by_one : {C : List Bytes → Type 0} {names' : List ℕ} → (t.kind ≡ 20 → ⊥) → Codes program output names 1 C names' → Codes program output names (next_of t - k.at.start) C names'
    by_one n h = codes_wider _ (let l = forward k.ground text k.at.start t et n in omega arith) h

    -- `|` is no term
    pub bar_wrong : t.kind ≡ 23 → Stops (term_in k.ground k.over) text k.at.start (met_before variables k) (record { refusal = Misplaced; place = t.place })
    bar_wrong ek = laws.bar_wrong k.ground k.over text k.at.start t et (met_before variables k) ek

    module _ (ek : t.kind ≡ 0) where
      pub name_stops : (k.over ≡ false → most_bytes < t.place.len) → Stops (term_in k.ground k.over) text k.at.start (met_before variables k) (record { refusal = OverSize; place = t.place })
      name_stops l = laws.name_stops k.ground k.over text k.at.start t et (met_before variables k) ek l

      -- a name is put into the table of names
      pub name_goes : t.place.len ≤ most_bytes → k.over ≡ false → (names' : List ℕ) (i : ℕ) → Interns program output names (part text t.place) names' (Some i) → ReadsTerm program output text names variables k (Ok (record { number = first_name + i; behind = past t.place; met = k.met })) names' variables
      name_goes l o names' i h = laws.name_goes k.ground k.over text k.at.start t et (met_before variables k) ek l o (met_fits ready) (by_one (λ q. omega arith) (name_coded program output names _ names' i h))

    module _ (ek : t.kind ≡ 22) where
      pub string_stops : (k.over ≡ false → most_bytes < t.place.len - 2) → Stops (term_in k.ground k.over) text k.at.start (met_before variables k) (record { refusal = OverSize; place = t.place })
      string_stops l = laws.string_stops k.ground k.over text k.at.start t et (met_before variables k) ek l

      -- and so is a string, without its closing quote
      pub string_goes : t.place.len - 2 ≤ most_bytes → k.over ≡ false → (names' : List ℕ) (i : ℕ) → Interns program output names (part text (with_len t.place (t.place.len - 1))) names' (Some i) → ReadsTerm program output text names variables k (Ok (record { number = first_string + i; behind = past t.place; met = k.met })) names' variables
      string_goes l o names' i h = laws.string_goes k.ground k.over text k.at.start t et (met_before variables k) ek l o (met_fits ready) (by_one (λ q. omega arith) (string_coded program output names _ names' i h _ (string_opened_here k.ground text k.at.start t et ek)))
