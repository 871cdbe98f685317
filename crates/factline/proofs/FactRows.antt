-- A fact's row stands for it: a code for each of its values. Rows that are kept stand for the same facts.
use mathlib.Core.Path.{◌≡◌, refl, sym, ap, ap₂, ◌∙◌}
use mathlib.Core.Bool.{Bool, true, false}
use mathlib.Core.Logic.{inl, inr}
use mathlib.Core.List.{List, [], ◌∷◌, ◌++◌, map}
use Prim.Native.Nat.{ℕ, ◌+◌, ◌*◌, ◌≤◌, ◌<◌}
use native.Mathlib.Omega.{arith}
use lib.Dec.{ltb}
use lib.ListN.{length, get_or, take, drop}
use borrow.Author.Tests.{ltb-false}
use Rattle.meaning.specs.Sets.{In}
use Rattle.meaning.specs.Rules.{Bytes, Term, constant, variable, Atom, Fact}
use Rattle.meaning.specs.Values.{Value}
use Rattle.codes.specs.Codes.{no_value, Coded}
use Rattle.codes.specs.Predicates.{CodedName}
use Rattle.codes.specs.Related.{Pairwise, end, pair, RelatedTerm, both_constant, both_variable, RelatedAtom}
use Rattle.tables.specs.Layout.{fact_stride, arguments_column}
use Rattle.tables.specs.Rows.{term_of, arity, atom_with, fact_predicate, fact_arguments, fact_at, facts_of}
use Rattle.tables.specs.Stored.{with_row, Kept}
use Rattle.tables.proofs.Stored.{put_kept_of, put_part_of, kept_part}
use Rattle.tables.proofs.RowParts.{predicate_part, arguments_part}
use Rattle.tables.proofs.Strides.{from_on}
use Rattle.rows.specs.declared.literal.AtomCodes.{AtomCodes}
use Rattle.rows.specs.Coding.{CodedTerm, CodedAtom}

-- a fact as the atom that it is
abbrev pub as_atom : Fact Value → Atom (Term Value)
as_atom f = record { negative = f.negative; name = f.name; arguments = map constant f.arguments }

-- ---- numbers that stand for values

unfoldable is_variable : {U : Type 0} → Term U → ℕ
is_variable (constant c) = 0
is_variable (variable x) = 1

same_kind : {A B : Type 0} {R : A → B → Type 0} {t : Term A} {u : Term B} → RelatedTerm R t u → is_variable t ≡ is_variable u
unfolding is_variable
same_kind (both_constant r) = refl
same_kind (both_variable x) = refl

same_constant : {A B : Type 0} {R : A → B → Type 0} {a : A} {b : B} → RelatedTerm R (constant a) (constant b) → R a b
same_constant (both_constant r) = r

value_coded : (names : List Bytes) (c : ℕ) (v : Value) → CodedTerm names c (constant v) → Coded names c v × (no_value < c)
unfolding term_of is_variable
value_coded names c v h = go (ltb c 16) refl h.related
  where
    go : (b : Bool) → ltb c 16 ≡ b → RelatedTerm (Coded names) (term_of c) (constant v) → Coded names c v × (no_value < c)
    go true e k = absurd (let z : ◌≡◌ {A = ℕ} 1 0 = same_kind (rw e at k) in let y : ⊥ = omega arith in y)
    go false e k = (same_constant (rw e at k), let l = ltb-false c 16 e in let other : c ≡ 16 → ⊥ = h.valued in omega arith)

values_coded : (names : List Bytes) (cs : List ℕ) (vs : List Value) → Pairwise (CodedTerm names) cs (map constant vs) → Pairwise (Coded names) cs vs
values_coded names [] [] end = end
values_coded names (c ∷ cs) (v ∷ vs) (pair h hs) = pair (value_coded names c v h).0 (values_coded names cs vs hs)
values_coded names [] (v ∷ vs) x'' = elim x'' [ ]
values_coded names (c ∷ cs) [] x3 = elim x3 [ ]

values_ground : (names : List Bytes) (cs : List ℕ) (vs : List Value) → Pairwise (CodedTerm names) cs (map constant vs) → (c : ℕ) → In c cs → no_value < c
values_ground names (c ∷ cs) (v ∷ vs) (pair h hs) d (inl e) = let k = (value_coded names c v h).1 in omega arith
values_ground names (c ∷ cs) (v ∷ vs) (pair h hs) d (inr m) = values_ground names cs vs hs d m
values_ground names [] vs _ d x3 = elim x3 [ ]
values_ground names (c ∷ cs) [] x5 d _ = elim x5 [ ]

-- ---- the stored row

-- the row stands for the fact, and no number before or behind it is another
pub record FactStored (names : List Bytes) (facts : List ℕ) (number : ℕ) (f : Fact Value) (facts' : List ℕ) : Type 0 where
  pub kept : Kept (number * fact_stride) (number * fact_stride + fact_stride) facts facts'
  pub ground : (c : ℕ) → In c (fact_arguments facts' number) → no_value < c
  pub stands : RelatedAtom (CodedName names) (Coded names) (fact_at facts' number) f

module _ (names : List Bytes) (facts : List ℕ) (number : ℕ) (long : number * fact_stride + fact_stride ≤ length facts) (codes : AtomCodes) (row : List ℕ) (is_row : row ≡ codes.predicate ∷ codes.terms) (nine : length row ≡ fact_stride) (facts' : List ℕ) (stored : facts' ≡ with_row facts (number * fact_stride) row) where
  fits : number * fact_stride + length row ≤ length facts
  fits = omega arith

  here : take fact_stride (drop (number * fact_stride) facts') ≡ codes.predicate ∷ codes.terms
  here = ap (λ (t : List ℕ). take fact_stride (drop (number * fact_stride) t)) stored ∙ put_part_of facts (number * fact_stride) row fits fact_stride nine ∙ is_row

  predicate_is : fact_predicate facts' number ≡ codes.predicate
  predicate_is = predicate_part facts' number ∙ ap (λ (t : List ℕ). get_or t 0 0) here

  arguments_are : fact_arguments facts' number ≡ take (arity codes.predicate) codes.terms
  arguments_are = rw predicate_is (arguments_part facts' number codes.predicate ∙ ap (λ (t : List ℕ). take (arity codes.predicate) (drop arguments_column t)) here)

  fact_is : fact_at facts' number ≡ atom_with codes.predicate (take (arity codes.predicate) codes.terms)
  unfolding fact_at
  fact_is = ap₂ (λ (p : ℕ) (xs : List ℕ). atom_with p xs) predicate_is arguments_are

  pub fact_stored : (f : Fact Value) → CodedAtom names codes (as_atom f) → FactStored names facts number f facts'
  unfolding atom_with
  fact_stored f k =
      record {
        kept = rw stored (put_kept_of facts (number * fact_stride) row fits fact_stride nine);
        ground = λ c m. values_ground _ _ f.arguments k.terms c (rw arguments_are at m);
        stands = rw fact_is (record { negative = k.related.negative; name = k.related.name; arguments = values_coded _ _ f.arguments k.terms });
      }

-- ---- rows that are kept

module _ (facts facts' : List ℕ) (n : ℕ) (kept : Kept (n * fact_stride) (n * fact_stride + fact_stride) facts facts') where
  module _ (k : ℕ) (h : k < n) where
    same_row : take fact_stride (drop (k * fact_stride) facts') ≡ take fact_stride (drop (k * fact_stride) facts)
    same_row = kept_part kept fact_stride (k * fact_stride) (omega arith)

    same_predicate : fact_predicate facts' k ≡ fact_predicate facts k
    same_predicate = predicate_part facts' k ∙ ap (λ (r : List ℕ). get_or r 0 0) same_row ∙ sym (predicate_part facts k)

    pub same_arguments : fact_arguments facts' k ≡ fact_arguments facts k
    same_arguments =
        ap (λ (p : ℕ). take (arity p) (drop (k * fact_stride + arguments_column) facts')) same_predicate
        ∙ arguments_part facts' k (fact_predicate facts k)
        ∙ ap (λ (r : List ℕ). take (arity (fact_predicate facts k)) (drop arguments_column r)) same_row
        ∙ sym (arguments_part facts k (fact_predicate facts k))

    same_fact : fact_at facts' k ≡ fact_at facts k
    unfolding fact_at
    same_fact = ap₂ (λ (p : ℕ) (xs : List ℕ). atom_with p xs) same_predicate same_arguments

  pub facts_with : facts_of facts' (n + 1) ≡ facts_of facts n ++ (fact_at facts' n ∷ [])
  facts_with = from_on (fact_at facts') (fact_at facts) n (λ k h. same_fact k h)
