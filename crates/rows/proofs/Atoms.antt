-- Numbers of atoms: the predicate's number and the arguments' stand for the atom.
use mathlib.Core.Path.{◌≡◌, ap, ◌∙◌}
use mathlib.Core.Bool.{Bool}
use mathlib.Core.List.{List, [], ◌∷◌, map}
use Prim.Native.Nat.{ℕ}
use lib.ListN.{take}
use Rattle.meaning.specs.Rules.{Bytes, Term, Predicate}
use Rattle.meaning.specs.Values.{Value}
use Rattle.codes.specs.Predicates.{predicate_code, predicate_of, CodedName}
use Rattle.codes.specs.Codes.{Coded}
use Rattle.codes.specs.Related.{Pairwise, end, pair, RelatedTerm}
use Rattle.codes.proofs.Predicates.{predicate_back}
use Rattle.tables.specs.Rows.{term_of, arity, atom_with}
use Rattle.names.specs.Table.{names_of}
use Rattle.rows.specs.Coding.{CodedTerm, CodedTerms, CodedAtom, Codes}
use Rattle.rows.proofs.Growth.{keeps_name}

-- numbers that stand for terms, as terms of the rows
related_terms : {names : List Bytes} {cs : List ℕ} {ts : List (Term Value)} → Pairwise (CodedTerm names) cs ts → Pairwise (RelatedTerm (Coded names)) (map term_of cs) ts
related_terms end = end
related_terms (pair h hs) = pair h.related (related_terms hs)

-- behind a name that has a number, n arguments
module _ (program output : Bytes) (names : List ℕ) (name : Bytes) (i : ℕ) (named : CodedName (names_of program output names) (i ∷ []) name) (negative : Bool) (codes : List ℕ) (n p : ℕ) (q : p ≡ predicate_code negative i n) (terms : List (Term Value)) {m : ℕ} (names'' : List ℕ) (h : Codes program output names m (λ ns. CodedTerms ns codes n terms) names'') where
  back : predicate_of p ≡ record { negative = negative; name = i ∷ []; arity = n }
  back = ap predicate_of q ∙ predicate_back negative i n h.coded.few

  is_arity : arity p ≡ n
  unfolding predicate_of
  is_arity = ap (λ (r : Predicate). r.arity) back

  are_terms : Pairwise (CodedTerm (names_of program output names'')) (take (arity p) codes) terms
  are_terms = rw is_arity h.coded.coded

  pub atom_coded : Codes program output names m (λ ns. CodedAtom ns (record { predicate = p; terms = codes }) (record { negative = negative; name = name; arguments = terms })) names''
  unfolding atom_with
  atom_coded =
      record {
        grows = h.grows;
        coded =
            record {
              related =
                  record {
                    negative = ap (λ (r : Predicate). r.negative) back;
                    name = rw (ap (λ (r : Predicate). r.name) back) (keeps_name program output h.grows _ _ named);
                    arguments = related_terms are_terms;
                  };
              terms = are_terms;
            };
      }
