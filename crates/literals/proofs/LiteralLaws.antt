-- What the functions that read a literal return, by the tests that led there.
use Rattle.std.specs.Prelude.{Some, Result, Ok, Err}
use mathlib.Core.Path.{◌≡◌, refl, subst, sym as inv}
use mathlib.Core.Bool.{Bool, true, false, ◌&&◌, ◌||◌, true≢false}
use mathlib.Core.Logic.{◌⊎◌, inl, inr}
use mathlib.Core.List.{List}
use Prim.Native.Nat.{ℕ, ◌+◌, ◌-◌, ◌≤◌, ◌<◌}
use native.Mathlib.Omega.{arith}
use lib.Dec.{eqb, leb}
use lib.ListN.{length}
use borrow.Author.Tests.{eqb-true, eqb-false, leb-true, leb-false}
use Rattle.texts.specs.Place.{past}
use Rattle.texts.specs.declared.place.Place.{Place}
use Rattle.texts.specs.declared.refusal.Refusal.TheVariants.{Misplaced, OverSize}
use Rattle.texts.specs.declared.refusal.Refused.{Refused}
use Rattle.texts.specs.Places.{places_in}
use Rattle.texts.specs.Parts.{part}
use Rattle.meaning.specs.Rules.{Bytes, Term, Literal}
use Rattle.meaning.specs.Values.{Value}
use Rattle.codes.specs.Codes.{first_name}
use Rattle.names.specs.Numbering.{Interns}
use Rattle.names.proofs.Numbered.{interned_name}
use Rattle.syntax.specs.declared.token.TokenRead.{TokenRead}
use Rattle.syntax.specs.Text.{token_read, next_of}
use Rattle.syntax.specs.Fills.{Goes, Stops, Fills}
use Rattle.syntax.specs.Terms.{term_in, negative_in}
use Rattle.syntax.specs.Builtins.{side_in}
use Rattle.syntax.specs.Atoms.{named_in, minus_in, atom_in}
use Rattle.syntax.specs.Literals.{literal_in_body, minus_literal_in}
use Rattle.syntax.proofs.Literals as laws
use Rattle.syntax.proofs.Readings.{Around, stops_as, goes_as, fills_as}
use Rattle.rows.specs.Coding.{CodedTerm, Codes}
use Rattle.rows.proofs.Growth.{grows_none, grows_then}
use Rattle.rows.proofs.Literals.{coded_positive, coded_negated}
use Rattle.rows.proofs.Terms.{coded_constant}
use Rattle.terms.specs.declared.cursor.Cursor.{Cursor}
use Rattle.terms.specs.declared.term.TermRead.{TermRead}
use Rattle.terms.specs.Cursors.{met_before}
use Rattle.terms.specs.Terms.{ReadsTerm, Nameless, ReadsNegative}
use Rattle.terms.proofs.Readiness.{behind_token, met_fits, fits_met, ready_on, codes_wider}
use Rattle.atoms.specs.declared.atom.AtomRead.{AtomRead}
use Rattle.atoms.specs.Atoms.{NameStands, ReadsNamed, ReadsMinus, ReadsAtom}
use Rattle.atoms.proofs.AtomLaws.{with_name, name_stands, ready_named}
use Rattle.literals.specs.declared.builtin.LiteralRead.{LiteralRead}
use Rattle.literals.specs.Builtins.{ReadyBehind, ReadySide, LiteralStands, ReadsSide, behind_left}
use Rattle.literals.specs.Literals.{ReadsLiteral, ReadsMinusLiteral, begins_term, atom_literal}

-- ---- what begins a term

a_term : (kind : ℕ) → begins_term kind ≡ true → (kind ≤ 4) ⊎ (kind ≡ 22)
unfolding begins_term
a_term kind = go (leb kind 4) refl
  where
    go : (b : Bool) → leb kind 4 ≡ b → (b || eqb kind 22) ≡ true → (kind ≤ 4) ⊎ (kind ≡ 22)
    go true e h = inl (leb-true kind 4 e)
    go false e h = inr (eqb-true kind 22 h)

no_term : (kind : ℕ) → begins_term kind ≡ false → (4 < kind) × (kind ≡ 22 → ⊥)
unfolding begins_term
no_term kind = go (leb kind 4) refl
  where
    go : (b : Bool) → leb kind 4 ≡ b → (b || eqb kind 22) ≡ false → (4 < kind) × (kind ≡ 22 → ⊥)
    go true e h = absurd (true≢false h)
    go false e h = (leb-false kind 4 e, eqb-false kind 22 h)

module _ (program output : Bytes) (names variables : List ℕ) (k : Cursor) (ready : ReadyBehind program output names variables k) (t : TokenRead) (et : t ≡ token_read false program k.at.start) where
  abbrev v : List Place
  v = met_before variables k

  -- its token, as the atoms' functions see it
  as_token : t ≡ token_read k.ground program k.at.start
  as_token = subst (λ (b : Bool). t ≡ token_read b program k.at.start) (inv ready.in_program) et

  -- ---- a name, and what follows it

  -- behind a name that has been put into the table of names there is room too
  pub ready_name : t.kind ≡ 0 → (names₁ : List ℕ) (i : ℕ) → Interns program output names (part program t.place) names₁ (Some i) → ReadyBehind program output names₁ variables (behind_token k t)
  ready_name ek names₁ i interned = record { ready = ready_named program output program names variables k ready.ready t as_token ek names₁ i interned; in_program = ready.in_program }

  module _ (ek : t.kind ≡ 0) where
    pub name_stops : (k.over ≡ false → 64 < t.place.len) → Stops (literal_in_body k.over) program k.at.start v (record { refusal = OverSize; place = t.place })
    name_stops l = laws.name_stops k.over program k.at.start t et v ek l

    module _ (l : t.place.len ≤ 64) (o : k.over ≡ false) (t' : TokenRead) (et' : t' ≡ token_read false program (next_of t)) (names₁ : List ℕ) (i : ℕ) (interned : Interns program output names (part program t.place) names₁ (Some i)) where
      joined : (next : ℕ) → next_of t ≤ next → {C : List Bytes → Type 0} {names₂ : List ℕ} → Codes program output names₁ (next - next_of t) C names₂ → Codes program output names (next - k.at.start) C names₂
      joined next l h = with_name program output program names variables k ready.ready t as_token ek names₁ i interned next l h

      pub name_compared : (leb 13 t'.kind && leb t'.kind 19) ≡ true → (r : Result LiteralRead Refused) (names' variables' : List ℕ) → ReadsSide program output names₁ variables (behind_token k t) (first_name + i) r names' variables' → ReadsLiteral program output names variables k r names' variables'
      name_compared e r names' variables' g = fills_as (laws.name_compared k.over program k.at.start t et v ek l o t' et' e) r (λ a. a.behind) (λ a. places_in variables' a.met) (λ a. LiteralStands program output names₁ (next_of t) a names') (λ a. LiteralStands program output names k.at.start a names') (λ a m y s. joined _ y s) (g _ (coded_constant _ (interned_name program output names _ names₁ i interned) (omega arith)))

      module _ (e : (leb 13 t'.kind && leb t'.kind 19) ≡ false) where
        stands : NameStands program output names₁ i (part program t.place)
        stands = name_stands program output program names variables k ready.ready t as_token ek names₁ i interned

        pub name_atom_stops : (x : Refused) → ((b : Bytes) → NameStands program output names₁ i b → Stops (named_in k.ground program (next_of t) false b) program (next_of t) v x) → Stops (literal_in_body k.over) program k.at.start v x
        name_atom_stops x g = stops_as (laws.name_atom k.over program k.at.start t et v ek l o t' et' e) (rw ready.in_program at (g _ stands))

        in_program_named : (a : AtomRead) (names' variables' : List ℕ) → ReadsNamed program output program names₁ variables (behind_token k t) (record { negative = false; number = i }) (Ok a) names' variables' → ReadsNamed program output program names₁ variables (record { base = k.base; at = past t.place; ground = false; over = false; met = k.met }) (record { negative = false; number = i }) (Ok a) names' variables'
        in_program_named a names' variables' h = rw ready.in_program at h

        pub name_atom_goes : (a : AtomRead) (names' variables' : List ℕ) → ReadsNamed program output program names₁ variables (behind_token k t) (record { negative = false; number = i }) (Ok a) names' variables' → ReadsLiteral program output names variables k (Ok (atom_literal 0 a)) names' variables'
        name_atom_goes a names' variables' g = goes_as (laws.name_atom k.over program k.at.start t et v ek l o t' et' e) (LiteralStands program output names k.at.start (atom_literal 0 a) names') (λ b y s. let h = joined _ y s in record { grows = h.grows; coded = coded_positive _ a.codes b h.coded }) (in_program_named a names' variables' g _ stands)

  -- ---- behind a minus

  module _ (ne : t.kind ≡ 4 → ⊥) where
    pub minus_atom_stops : (x : Refused) → Stops (minus_in k.ground program k.at.start) program k.at.start v x → Stops minus_literal_in program k.at.start v x
    minus_atom_stops x g = stops_as (laws.minus_atom program k.at.start t et v ne) (rw ready.in_program at g)

    in_program_minus : (a : AtomRead) (names' variables' : List ℕ) → ReadsMinus program output program names variables k (Ok a) names' variables' → ReadsMinus program output program names variables (record { base = k.base; at = k.at; ground = false; over = k.over; met = k.met }) (Ok a) names' variables'
    in_program_minus a names' variables' h = rw ready.in_program at h

    pub minus_atom_goes : (a : AtomRead) (names' variables' : List ℕ) → ReadsMinus program output program names variables k (Ok a) names' variables' → ReadsMinusLiteral program output names variables k (Ok (atom_literal 0 a)) names' variables'
    minus_atom_goes a names' variables' g = goes_as (laws.minus_atom program k.at.start t et v ne) (LiteralStands program output names k.at.start (atom_literal 0 a) names') (λ b y s. record { grows = s.grows; coded = coded_positive _ a.codes b s.coded }) (in_program_minus a names' variables' g)

  module _ (ek : t.kind ≡ 4) where
    pub minus_refused : (x : Refused) → ReadsNegative false program k.at.start k.met (Err x) → Stops minus_literal_in program k.at.start v x
    minus_refused x g = laws.minus_refused program k.at.start t et v (stops_as (laws.minus_left program k.at.start t et v ek) (g.reads v (met_fits ready.ready)))

    module _ (w : TermRead) (g : ReadsNegative false program k.at.start k.met (Ok w)) where
      number : Goes (negative_in false) false program k.at.start v w.behind v (Nameless w.number)
      number = g.reads v (met_fits ready.ready)

      -- there is room behind the number
      pub ready_negative : ReadySide program output names variables (behind_left k w) w.number
      ready_negative = record { behind = record { ready = ready_on ready.ready (behind_left k w) refl (grows_none program output names _ ready.ready.room.in_order) number.forward number.stands (rw g.same_met ready.ready.few) refl; in_program = ready.in_program }; term = _; stands = number.means _ }

      pub minus_compared : (r : Result LiteralRead Refused) (names' variables' : List ℕ) → ReadsSide program output names variables (behind_left k w) w.number r names' variables' → ReadsMinusLiteral program output names variables k r names' variables'
      minus_compared r names' variables' c = fills_as (laws.minus_compared program k.at.start t et v left) r (λ a. a.behind) (λ a. places_in variables' a.met) (λ a. LiteralStands program output names w.behind.start a names') (λ a. LiteralStands program output names k.at.start a names') (λ a m y h. codes_wider _ (let f = left.forward in omega arith) h) (sides _ left.means)
        where
          left : Goes (laws.minus_left_in program k.at.start t et v) false program k.at.start v w.behind v (Nameless w.number)
          left = goes_as (laws.minus_left program k.at.start t et v ek) (Nameless w.number) (λ m y s. s) number

          sides : (a : Term Value) → Nameless w.number a → Fills (side_in a) false program w.behind.start v r (λ d. d.behind) (λ d. places_in variables' d.met) (λ d. LiteralStands program output names w.behind.start d names')
          sides a s = subst (λ (n : ℕ). Fills (side_in a) false program w.behind.start (places_in variables n) r (λ d. d.behind) (λ d. places_in variables' d.met) (λ d. LiteralStands program output names w.behind.start d names')) g.same_met (c a (s _))

  -- ---- any literal

  pub not_over : t.kind ≡ 1 → k.over ≡ true → Stops (literal_in_body k.over) program k.at.start v (record { refusal = OverSize; place = t.place })
  not_over ek o = laws.not_over k.over program k.at.start t et v ek o

  pub minus_over : t.kind ≡ 10 → k.over ≡ true → Stops (literal_in_body k.over) program k.at.start v (record { refusal = OverSize; place = t.place })
  minus_over ek o = laws.minus_over k.over program k.at.start t et v ek o

  module _ (ek : t.kind ≡ 1) (o : k.over ≡ false) where
    in_program_atom : (a : AtomRead) (names' variables' : List ℕ) → ReadsAtom program output program names variables (behind_token k t) (Ok a) names' variables' → ReadsAtom program output program names variables (record { base = k.base; at = past t.place; ground = false; over = false; met = k.met }) (Ok a) names' variables'
    in_program_atom a names' variables' h = rw ready.in_program at h

    around : Around (atom_in false false program (next_of t)) (literal_in_body k.over) Literal.negated false k.over program (next_of t) k.at.start v v
    around = laws.not_around k.over program k.at.start t et v ek o

    pub not_stops : (x : Refused) → Stops (atom_in k.ground false program (next_of t)) program (next_of t) v x → Stops (literal_in_body k.over) program k.at.start v x
    not_stops x g = stops_as around (rw ready.in_program at g)

    pub not_goes : (a : AtomRead) (names' variables' : List ℕ) → ReadsAtom program output program names variables (behind_token k t) (Ok a) names' variables' → ReadsLiteral program output names variables k (Ok (atom_literal 1 a)) names' variables'
    not_goes a names' variables' g = goes_as around (LiteralStands program output names k.at.start (atom_literal 1 a) names') (λ b y s. let h = codes_wider _ (let d = around.later in omega arith) s in record { grows = h.grows; coded = coded_negated _ a.codes b h.coded }) (in_program_atom a names' variables' g)

  pub minus_goes : t.kind ≡ 10 → k.over ≡ false → (r : Result LiteralRead Refused) (names' variables' : List ℕ) → ReadsMinusLiteral program output names variables (behind_token k t) r names' variables' → ReadsLiteral program output names variables k r names' variables'
  minus_goes ek o r names' variables' g =
      let w = laws.minus_around k.over program k.at.start t et v ek o in
      fills_as w r (λ a. a.behind) (λ a. places_in variables' a.met) (λ a. LiteralStands program output names (next_of t) a names') (λ a. LiteralStands program output names k.at.start a names') (λ a m y s. codes_wider _ (let d = w.later in omega arith) s) g

  pub literal_wrong : (t.kind ≡ 0 → ⊥) → (t.kind ≡ 10 → ⊥) → begins_term t.kind ≡ false → Stops (literal_in_body k.over) program k.at.start v (record { refusal = Misplaced; place = t.place })
  literal_wrong a b l = let n = no_term t.kind l in laws.literal_wrong k.over program k.at.start t et v a b n.0 n.1

  -- a variable, `_`, a number or a string: a comparison
  in_program_term : (w : TermRead) (names₁ variables₁ : List ℕ) → ReadsTerm program output program names variables k (Ok w) names₁ variables₁ → ReadsTerm program output program names variables (record { base = k.base; at = k.at; ground = false; over = k.over; met = k.met }) (Ok w) names₁ variables₁
  in_program_term w names₁ variables₁ g = rw ready.in_program at g

  module _ (a : t.kind ≡ 0 → ⊥) (b : t.kind ≡ 1 → ⊥) (l : begins_term t.kind ≡ true) where
    pub literal_refused : (x : Refused) → Stops (term_in k.ground k.over) program k.at.start v x → Stops (literal_in_body k.over) program k.at.start v x
    literal_refused x g = laws.literal_refused k.over program k.at.start t et v (stops_as (laws.literal_left k.over program k.at.start t et v a b (a_term t.kind l)) (rw ready.in_program at g))

    module _ (w : TermRead) (names₁ variables₁ : List ℕ) (g : ReadsTerm program output program names variables k (Ok w) names₁ variables₁) where
      left : Goes (laws.left_in_body k.over program k.at.start t et v) k.over program k.at.start v w.behind (places_in variables₁ w.met) (λ (x : Term Value). Codes program output names (w.behind.start - k.at.start) (λ ns. CodedTerm ns w.number x) names₁)
      left = goes_as (laws.literal_left k.over program k.at.start t et v a b (a_term t.kind l)) (λ (x : Term Value). Codes program output names (w.behind.start - k.at.start) (λ ns. CodedTerm ns w.number x) names₁) (λ m y s. s) (in_program_term w names₁ variables₁ g)

      -- there is room behind the term
      pub ready_left : length variables₁ ≡ length variables → ReadySide program output names₁ variables₁ (behind_left k w) w.number
      ready_left long = record { behind = record { ready = ready_on ready.ready (behind_left k w) refl left.means.grows left.forward left.stands (fits_met variables₁ w.met left.fits) long; in_program = ready.in_program }; term = _; stands = left.means.coded }

      pub literal_compared : (r : Result LiteralRead Refused) (names' variables' : List ℕ) → ReadsSide program output names₁ variables₁ (behind_left k w) w.number r names' variables' → ReadsLiteral program output names variables k r names' variables'
      literal_compared r names' variables' c = fills_as (laws.literal_compared k.over program k.at.start t et v left) r (λ d. d.behind) (λ d. places_in variables' d.met) (λ d. LiteralStands program output names₁ w.behind.start d names') (λ d. LiteralStands program output names k.at.start d names') (λ d m y h. record { grows = grows_then program output left.means.grows _ h.grows (let f = left.forward in omega arith); coded = h.coded }) (c _ left.means.coded)
