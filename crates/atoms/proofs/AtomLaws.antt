-- What the functions that read a classical atom return, by the tests that led there.
use mathlib.Core.Path.{◌≡◌, refl, sym as inv, ap, ◌∙◌}
use mathlib.Core.Bool.{Bool, true, false}
use mathlib.Core.List.{List, []}
use Prim.Native.Nat.{ℕ, ◌-◌, ◌≤◌, ◌<◌}
use native.Mathlib.Omega.{arith}
use Rattle.std.specs.Prelude.{Result, Ok, Some}
use Rattle.texts.specs.declared.refusal.Refused.{Refused}
use Rattle.texts.specs.Place.{Stands, past}
use Rattle.texts.specs.Places.{places_in}
use Rattle.texts.specs.declared.place.Place.{Place}
use Rattle.texts.specs.Parts.{part}
use Rattle.meaning.specs.Rules.{Bytes}
use Rattle.grammar.specs.Sizes.{most_bytes}
use Rattle.codes.specs.Predicates.{predicate_code}
use Rattle.codes.specs.Related.{end}
use Rattle.names.specs.Numbering.{Interns}
use Rattle.names.proofs.Numbered.{grown_coded_name}
use Rattle.syntax.specs.declared.token.TokenRead.{TokenRead}
use Rattle.syntax.specs.Text.{token_read, next_of}
use Rattle.syntax.specs.Fills.{Stops}
use Rattle.syntax.specs.Arguments.{arguments_in}
use Rattle.syntax.specs.Atoms.{named_in}
use Rattle.syntax.proofs.Tokens.{forward, past_here}
use Rattle.syntax.proofs.Readings.{stops_as, goes_as, fills_as}
use Rattle.syntax.proofs.Atoms as laws
use Rattle.rows.specs.Growth.{Grows}
use Rattle.rows.specs.Coding.{Codes}
use Rattle.rows.proofs.Growth.{grows_none, grows_interned, grows_then}
use Rattle.rows.proofs.Atoms.{atom_coded}
use Rattle.terms.specs.declared.cursor.Cursor.{Cursor}
use Rattle.terms.specs.Cursors.{ReadyCursor, met_before, ReadyToken}
use Rattle.terms.proofs.Readiness.{behind_token, met_fits, ready_on, codes_wider}
use Rattle.atoms.specs.declared.arguments.ArgumentsRead.{ArgumentsRead}
use Rattle.atoms.specs.declared.atom.AtomRead.{AtomRead}
use Rattle.atoms.specs.declared.atom.SignedName.{SignedName}
use Rattle.atoms.specs.Arguments.{ReadsArguments}
use Rattle.atoms.specs.Atoms.{AtomStands, NameStands, ReadsNamed, ReadsMinus, ReadsAtom}

-- the token where a head is wanted
pub ready_head : (program output text : Bytes) (names variables : List ℕ) (k : Cursor) → ReadyCursor program output text names variables k → (ground : Bool) → k.ground ≡ ground → (t : TokenRead) → t ≡ token_read ground text k.at.start → ReadyToken program output text names variables k t
ready_head program output text names variables k ready ground eg t et = record { ready = ready; is_token = et ∙ ap (λ (g : Bool). token_read g text k.at.start) (inv eg) }

module _ (program output text : Bytes) (names variables : List ℕ) (k : Cursor) (ready : ReadyCursor program output text names variables k) (t : TokenRead) (et : t ≡ token_read k.ground text k.at.start) where
  abbrev v : List Place
  v = met_before variables k

  ahead : (n : ℕ) → t.kind ≡ n → (20 ≤ n → ⊥) → k.at.start < next_of t
  ahead n ek nk = forward k.ground text k.at.start t et (λ q. nk (let z : n ≡ 20 = inv ek ∙ q in omega arith))

  behind : (n : ℕ) → t.kind ≡ n → (20 ≤ n → ⊥) → Stands text (past t.place)
  behind n ek nk = past_here k.ground text k.at.start t et (λ q. absurd (nk (let z : n ≡ 21 = inv ek ∙ q in omega arith)))

  -- behind a token that is neither the end nor stray there is room too
  pub ready_behind : (n : ℕ) → t.kind ≡ n → (20 ≤ n → ⊥) → ReadyCursor program output text names variables (behind_token k t)
  ready_behind n ek nk = ready_on ready (behind_token k t) refl (grows_none program output names _ ready.room.in_order) (let l = ahead n ek nk in omega arith) (behind n ek nk) ready.few refl

  -- ---- behind a name

  module _ (name : SignedName) where
    -- no parenthesis: the atom ends with its name
    pub named_bare : (t.kind ≡ 5 → ⊥) → (p : ℕ) → p ≡ predicate_code name.negative name.number 0 → (codes : List ℕ) → ReadsNamed program output text names variables k name (Ok (record { codes = record { predicate = p; terms = codes }; behind = k.at; met = k.met })) names variables
    named_bare ne p q codes b named = laws.named_bare k.ground text k.at ready.stands t et name.negative b v (met_fits ready) ne (atom_coded program output names b name.number named name.negative codes 0 p q [] names (record { grows = grows_none program output names _ ready.room.in_order; coded = record { few = omega arith; coded = end } }))

    module _ (ek : t.kind ≡ 5) where
      pub named_stops : (e : Refused) → Stops (arguments_in k.ground) text (next_of t) v e → (b : Bytes) → NameStands program output names name.number b → Stops (named_in k.ground text k.at.start name.negative b) text k.at.start v e
      named_stops e w b named = stops_as (laws.named_around k.ground text k.at.start t et name.negative b v ek) w

      pub named_goes : (w : ArgumentsRead) (names' variables' : List ℕ) → ReadsArguments program output text names variables (behind_token k t) (Ok w) names' variables' → (p : ℕ) → p ≡ predicate_code name.negative name.number w.count → ReadsNamed program output text names variables k name (Ok (record { codes = record { predicate = p; terms = w.terms }; behind = w.behind; met = w.met })) names' variables'
      named_goes w names' variables' g p q b named = goes_as (laws.named_around k.ground text k.at.start t et name.negative b v ek) _ (λ terms l h. atom_coded program output names b name.number named name.negative w.terms w.count p q terms names' (codes_wider _ (let y = ahead 5 ek (λ z. omega arith) in omega arith) h)) g

  -- ---- a name is put into the table of names

  module _ (ek : t.kind ≡ 0) (names₁ : List ℕ) (i : ℕ) (interned : Interns program output names (part text t.place) names₁ (Some i)) where
    grows_name : Grows program output names (next_of t - k.at.start) names₁
    grows_name = grows_then program output (grows_interned program output names _ names₁ i interned) _ (grows_none program output names₁ 0 interned.0) (let l = ahead 0 ek (λ z. omega arith) in omega arith)

    pub ready_named : ReadyCursor program output text names₁ variables (behind_token k t)
    ready_named = ready_on ready (behind_token k t) refl grows_name (let l = ahead 0 ek (λ z. omega arith) in omega arith) (behind 0 ek (λ z. omega arith)) ready.few refl

    pub name_stands : NameStands program output names₁ i (part text t.place)
    name_stands = grown_coded_name _ _ _ i interned.1

    -- what stands beside the names behind it stands beside those before it too
    pub with_name : (next : ℕ) → next_of t ≤ next → {C : List Bytes → Type 0} {names₂ : List ℕ} → Codes program output names₁ (next - next_of t) C names₂ → Codes program output names (next - k.at.start) C names₂
    with_name next l h = record { grows = grows_then program output grows_name (next - k.at.start) h.grows (let y = ahead 0 ek (λ z. omega arith) in omega arith); coded = h.coded }

    module _ (l : t.place.len ≤ most_bytes) (r : Result AtomRead Refused) (names' variables' : List ℕ) where
      -- behind a minus
      pub minus_goes : ReadsNamed program output text names₁ variables (behind_token k t) (record { negative = true; number = i }) r names' variables' → ReadsMinus program output text names variables k r names' variables'
      minus_goes g = fills_as (laws.minus_around k.ground text k.at.start t et v ek l) r (λ a. a.behind) (λ a. places_in variables' a.met) (λ a. AtomStands program output names₁ (next_of t) a names') (λ a. AtomStands program output names k.at.start a names') (λ a m y s. with_name _ y s) (g _ name_stands)

      -- a head, or behind `not`
      pub atom_goes : k.over ≡ false → ReadsNamed program output text names₁ variables (behind_token k t) (record { negative = false; number = i }) r names' variables' → ReadsAtom program output text names variables k r names' variables'
      atom_goes o g = fills_as (laws.atom_around k.ground k.over text k.at.start t et v ek l o) r (λ a. a.behind) (λ a. places_in variables' a.met) (λ a. AtomStands program output names₁ (next_of t) a names') (λ a. AtomStands program output names k.at.start a names') (λ a m y s. with_name _ y s) (g _ name_stands)

  -- a head, or behind `not`, with a minus
  pub signed_goes : t.kind ≡ 10 → k.over ≡ false → (r : Result AtomRead Refused) (names' variables' : List ℕ) → ReadsMinus program output text names variables (behind_token k t) r names' variables' → ReadsAtom program output text names variables k r names' variables'
  signed_goes ek o r names' variables' g = fills_as (laws.signed_around k.ground k.over text k.at.start t et v ek o) r (λ a. a.behind) (λ a. places_in variables' a.met) (λ a. AtomStands program output names (next_of t) a names') (λ a. AtomStands program output names k.at.start a names') (λ a m y s. codes_wider _ (let l = ahead 10 ek (λ z. omega arith) in omega arith) s) g
