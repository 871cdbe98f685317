-- Literals as rows: what the functions that read them promise.
use Rattle.std.specs.Prelude.{◌≡◌, Bool, true, false, ◌||◌, List, ◌∷◌, ℕ, eqb, leb, Result, Ok, Err}
use Rattle.texts.specs.declared.place.Place.{Place}
use Rattle.texts.specs.declared.refusal.Refusal.TheVariants.{OverSize}
use Rattle.texts.specs.declared.refusal.Refused.{Refused}
use Rattle.lexis.specs.declared.kind.Kind.TheVariants.{Number, String}
use Rattle.lexis.specs.Kind.{kind_number}
use Rattle.texts.specs.Places.{places_in}
use Rattle.meaning.specs.Rules.{Bytes}
use Rattle.syntax.specs.declared.token.TokenRead.{TokenRead}
use Rattle.syntax.specs.Text.{token_read}
use Rattle.syntax.specs.Fills.{Fills}
use Rattle.syntax.specs.Literals.{literal_in_body, minus_literal_in}
use Rattle.terms.specs.declared.cursor.Cursor.{Cursor}
use Rattle.terms.specs.Cursors.{met_before}
use Rattle.atoms.specs.declared.atom.AtomRead.{AtomRead}
use Rattle.literals.specs.declared.builtin.LiteralRead.{LiteralRead}
use Rattle.literals.specs.Builtins.{ReadyBehind, LiteralStands}

abbrev pub ReadsLiteral : Bytes → Bytes → List ℕ → List ℕ → Cursor → Result LiteralRead Refused → List ℕ → List ℕ → Type 0
ReadsLiteral program output names variables k r names' variables' = Fills (literal_in_body k.over) k.over program k.at.start (met_before variables k) r (λ a. a.behind) (λ a. places_in variables' a.met) (λ a. LiteralStands program output names k.at.start a names')

abbrev pub ReadsMinusLiteral : Bytes → Bytes → List ℕ → List ℕ → Cursor → Result LiteralRead Refused → List ℕ → List ℕ → Type 0
ReadsMinusLiteral program output names variables k r names' variables' = Fills minus_literal_in false program k.at.start (met_before variables k) r (λ a. a.behind) (λ a. places_in variables' a.met) (λ a. LiteralStands program output names k.at.start a names')

-- the cursor stands at a name
pub record ReadyToken (program output : Bytes) (names variables : List ℕ) (k : Cursor) (t : TokenRead) : Type 0 where
  pub ready : ReadyBehind program output names variables k
  pub is_token : t ≡ token_read false program k.at.start
  pub is_name : t.kind ≡ 0

-- a token of the kind is a term, or one that literals with other beginnings are told apart by before: a name, or `not`
unfoldable pub begins_term : ℕ → Bool
begins_term kind = leb kind (kind_number Number) || eqb kind (kind_number String)

-- ---- what a part of it answers

abbrev pub atom_literal : ℕ → AtomRead → LiteralRead
atom_literal sort a = record { row = sort ∷ a.codes.predicate ∷ 0 ∷ a.codes.terms; behind = a.behind; met = a.met }

-- nothing too many begins at the place, or it is refused there
abbrev pub NoneTooMany : Place → Bool → Result (Unit {0}) Refused → Type 0
NoneTooMany place over (Ok u) = over ≡ false
NoneTooMany place over (Err e) = (e ≡ record { refusal = OverSize; place = place }) × (over ≡ true)
