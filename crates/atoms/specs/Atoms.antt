-- Classical atoms as numbers: what the functions that read them promise.
use Rattle.std.specs.Prelude.{false, List, [], ◌∷◌, ℕ, ◌-◌, ◌<◌, Result}
use Rattle.texts.specs.declared.refusal.Refused.{Refused}
use Rattle.texts.specs.Places.{places_in}
use Rattle.meaning.specs.Rules.{Bytes, Term, Atom}
use Rattle.meaning.specs.Values.{Value}
use Rattle.codes.specs.Predicates.{CodedName}
use Rattle.names.specs.Table.{most_names, names_of}
use Rattle.syntax.specs.Fills.{Fills}
use Rattle.syntax.specs.Atoms.{named_in, minus_in, atom_in}
use Rattle.rows.specs.Coding.{CodedAtom, Codes}
use Rattle.terms.specs.declared.cursor.Cursor.{Cursor}
use Rattle.terms.specs.Cursors.{ReadyCursor, met_before}
use Rattle.atoms.specs.declared.atom.AtomRead.{AtomRead}
use Rattle.atoms.specs.declared.atom.SignedName.{SignedName}

-- the numbers stand for the atom, beside the table of names afterwards; what has been read began at a place
abbrev pub AtomStands : Bytes → Bytes → List ℕ → ℕ → AtomRead → List ℕ → Atom (Term Value) → Type 0
AtomStands program output names at r names' a = Codes program output names (r.behind.start - at) (λ ns. CodedAtom ns r.codes a) names'

-- the number stands for a name that was read before
abbrev pub NameStands : Bytes → Bytes → List ℕ → ℕ → Bytes → Type 0
NameStands program output names number b = CodedName (names_of program output names) (number ∷ []) b

-- what is asked behind a name: its number stands for one
pub record ReadyNamed (program output text : Bytes) (names variables : List ℕ) (k : Cursor) (name : SignedName) : Type 0 where
  pub ready : ReadyCursor program output text names variables k
  pub small : name.number < most_names
  pub bytes : Bytes
  pub stands : NameStands program output names name.number bytes

-- behind a name, whatever name the number stands for
abbrev pub ReadsNamed : Bytes → Bytes → Bytes → List ℕ → List ℕ → Cursor → SignedName → Result AtomRead Refused → List ℕ → List ℕ → Type 0
ReadsNamed program output text names variables k name r names' variables' = (b : Bytes) → NameStands program output names name.number b → Fills (named_in k.ground text k.at.start name.negative b) false text k.at.start (met_before variables k) r (λ a. a.behind) (λ a. places_in variables' a.met) (λ a. AtomStands program output names k.at.start a names')

abbrev pub ReadsMinus : Bytes → Bytes → Bytes → List ℕ → List ℕ → Cursor → Result AtomRead Refused → List ℕ → List ℕ → Type 0
ReadsMinus program output text names variables k r names' variables' = Fills (minus_in k.ground text k.at.start) false text k.at.start (met_before variables k) r (λ a. a.behind) (λ a. places_in variables' a.met) (λ a. AtomStands program output names k.at.start a names')

abbrev pub ReadsAtom : Bytes → Bytes → Bytes → List ℕ → List ℕ → Cursor → Result AtomRead Refused → List ℕ → List ℕ → Type 0
ReadsAtom program output text names variables k r names' variables' = Fills (atom_in k.ground k.over text k.at.start) k.over text k.at.start (met_before variables k) r (λ a. a.behind) (λ a. places_in variables' a.met) (λ a. AtomStands program output names k.at.start a names')
