-- What the numbers of a term and an atom are, beside the list of names.
use Rattle.std.specs.Prelude.{◌≡◌, List, map, ℕ, ◌≤◌, take}
use Rattle.meaning.specs.Rules.{Bytes, Term, Atom}
use Rattle.meaning.specs.Values.{Value}
use Rattle.codes.specs.Codes.{no_value, Coded}
use Rattle.codes.specs.Predicates.{CodedName}
use Rattle.codes.specs.Related.{Pairwise, RelatedTerm, RelatedAtom}
use Rattle.tables.specs.Rows.{term_of, arity, atom_with}
use Rattle.names.specs.Table.{names_of}
use Rattle.rows.specs.Growth.{Grows}
use Rattle.rows.specs.declared.literal.AtomCodes.{AtomCodes}

-- ---- beside a list of names

-- the number stands for the term, and is not the one of no value
pub record CodedTerm (names : List Bytes) (c : ℕ) (t : Term Value) : Type 0 where
  pub related : RelatedTerm (Coded names) (term_of c) t
  pub valued : c ≡ no_value → ⊥

-- the first so many numbers stand for the terms
pub record CodedTerms (names : List Bytes) (codes : List ℕ) (count : ℕ) (terms : List (Term Value)) : Type 0 where
  pub few : count ≤ 8
  pub coded : Pairwise (CodedTerm names) (take count codes) terms

-- the predicate's number and the terms', as many as its arity says, stand for the atom
pub record CodedAtom (names : List Bytes) (r : AtomCodes) (a : Atom (Term Value)) : Type 0 where
  pub related : RelatedAtom (CodedName names) (RelatedTerm (Coded names)) (atom_with r.predicate (map term_of (take (arity r.predicate) r.terms))) a
  pub terms : Pairwise (CodedTerm names) (take (arity r.predicate) r.terms) a.arguments

-- ---- what the functions give: the table of names afterwards, and numbers beside its names

pub record Codes (program output : Bytes) (names : List ℕ) (n : ℕ) (C : List Bytes → Type 0) (names' : List ℕ) : Type 0 where
  pub grows : Grows program output names n names'
  pub coded : C (names_of program output names')
