-- Laws of the table of names as it grows: what stood for something stands for it still.
use mathlib.Core.Path.{refl, sym, ap, ◌∙◌}
use mathlib.Core.List.{List, [], ◌∷◌, ◌++◌, append_assoc, append-nil}
use Prim.Native.Nat.{ℕ, ◌+◌, ◌≤◌}
use native.Mathlib.Omega.{arith}
use lib.ListN.{length, length-append}
use Rattle.meaning.specs.Domain.{equal}
use Rattle.meaning.specs.Rules.{Bytes, Term, plain, Atom, Fact, Literal, builtin, Rule}
use Rattle.meaning.specs.Values.{Value}
use Rattle.codes.specs.Codes.{Coded}
use Rattle.codes.specs.Predicates.{CodedName}
use Rattle.codes.specs.Related.{Pairwise, end, pair, RelatedTerm, RelatedAtom, both_plain, RelatedLiteral, both_builtin, RelatedRule}
use Rattle.codes.proofs.Pairwise.{pairwise_more}
use Rattle.codes.proofs.Names.{coded_name_more, coded_fact_more, coded_rule_more}
use Rattle.std.specs.Prelude.{Some}
use Rattle.names.specs.Table.{names_of, Table}
use Rattle.names.specs.Numbering.{Interns}
use Rattle.names.proofs.Numbered.{behind, grown_list, grown_length}
use Rattle.rows.specs.Growth.{Room, Grows}
use Rattle.rows.specs.Coding.{CodedTerm}

-- a part of what is related is related
first_pair : {A B : Type 0} {R : A → B → Type 0} {a : A} {b : B} {xs : List A} {ys : List B} → Pairwise R (a ∷ xs) (b ∷ ys) → R a b
first_pair (pair r rs) = r

left_of : {A B : Type 0} {N : Bytes → Bytes → Type 0} {R : A → B → Type 0} {t : Term A} {u : Term B} → RelatedLiteral N R (builtin equal t (plain t)) (builtin equal u (plain u)) → RelatedTerm R t u
left_of (both_builtin k t e) = t

module _ (program output : Bytes) where
  pub grows_none : (names : List ℕ) (n : ℕ) → Table program output names → Grows program output names n names
  grows_none names n t = record { in_order = t; more = []; behind = sym (append-nil _); few = omega arith; long = refl }

  pub grows_interned : (names : List ℕ) (name : Bytes) (names' : List ℕ) (i : ℕ) → Interns program output names name names' (Some i) → Grows program output names 1 names'
  grows_interned names name names' i h =
      let e = grown_list _ name _ i h.1 in
      record {
        in_order = h.0;
        more = behind _ name _ i h.1;
        behind = e;
        few = let l = grown_length _ name _ i h.1 in omega (arith, simp length-append at (ap length e));
        long = h.2;
      }

  module _ {names names' : List ℕ} {m : ℕ} (g : Grows program output names m names') where
    pub grows_then : {names'' : List ℕ} {n : ℕ} (k : ℕ) → Grows program output names' n names'' → m + n ≤ k → Grows program output names k names''
    grows_then k h l =
        record {
          in_order = h.in_order;
          more = g.more ++ h.more;
          behind = h.behind ∙ ap (λ (x : List Bytes). x ++ h.more) g.behind ∙ append_assoc (names_of program output names) g.more h.more;
          few = let a = g.few in let b = h.few in simp length-append (omega arith);
          long = h.long ∙ g.long;
        }

    pub room_after : {n : ℕ} (k : ℕ) → Room program output names n → m + k ≤ n → Room program output names' k
    room_after k r l = record { in_order = g.in_order; room = let a = g.few in let b = r.room in rw g.long (omega (arith, simp length-append at (ap length g.behind))) }

    -- ---- what stood for something stands for it still

    pub keeps_name : (c n : Bytes) → CodedName (names_of program output names) c n → CodedName (names_of program output names') c n
    keeps_name c n h = rw g.behind (coded_name_more _ g.more c n h)

    keeps_rule : (r : Rule ℕ) (s : Rule Value) → RelatedRule (CodedName (names_of program output names)) (Coded (names_of program output names)) r s → RelatedRule (CodedName (names_of program output names')) (Coded (names_of program output names')) r s
    keeps_rule r s = rw g.behind (coded_rule_more _ g.more r s)

    pub keeps_literal : (a : Literal ℕ) (b : Literal Value) → RelatedLiteral (CodedName (names_of program output names)) (Coded (names_of program output names)) a b → RelatedLiteral (CodedName (names_of program output names')) (Coded (names_of program output names')) a b
    keeps_literal a b h = first_pair (keeps_rule (record { heads = []; body = a ∷ [] }) (record { heads = []; body = b ∷ [] }) (record { heads = end; body = pair h end })).body

    pub keeps_atom : (a : Atom (Term ℕ)) (b : Atom (Term Value)) → RelatedAtom (CodedName (names_of program output names)) (RelatedTerm (Coded (names_of program output names))) a b → RelatedAtom (CodedName (names_of program output names')) (RelatedTerm (Coded (names_of program output names'))) a b
    keeps_atom a b h = first_pair (keeps_rule (record { heads = a ∷ []; body = [] }) (record { heads = b ∷ []; body = [] }) (record { heads = pair h end; body = end })).heads

    pub keeps_term : (c : ℕ) (t : Term Value) → CodedTerm (names_of program output names) c t → CodedTerm (names_of program output names') c t
    keeps_term c t h = record { related = left_of (keeps_literal _ _ (both_builtin equal h.related (both_plain h.related))); valued = h.valued }

    pub keeps_facts : {I : List (Fact ℕ)} {K : List (Fact Value)} → Pairwise (RelatedAtom (CodedName (names_of program output names)) (Coded (names_of program output names))) I K → Pairwise (RelatedAtom (CodedName (names_of program output names')) (Coded (names_of program output names'))) I K
    keeps_facts = rw g.behind (pairwise_more _ (coded_fact_more _ g.more))

    pub keeps_rules : {P : List (Rule ℕ)} {Q : List (Rule Value)} → Pairwise (RelatedRule (CodedName (names_of program output names)) (Coded (names_of program output names))) P Q → Pairwise (RelatedRule (CodedName (names_of program output names')) (Coded (names_of program output names'))) P Q
    keeps_rules = rw g.behind (pairwise_more _ (coded_rule_more _ g.more))

  pub room_less : {names : List ℕ} {n : ℕ} (k : ℕ) → Room program output names n → k ≤ n → Room program output names k
  room_less k r l = record { in_order = r.in_order; room = let a = r.room in omega arith }
