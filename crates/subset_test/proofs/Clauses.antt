-- A subset is refuted exactly where it violates a clause of the reduct: a clause whose body it has, and of whose heads it has none.
use mathlib.Core.Path.{◌≡◌, refl, sym, ap, ap₂, ◌∙◌}
use mathlib.Core.Bool.{Bool, true, false, not, ◌&&◌, ◌||◌, cond, true≢false}
use mathlib.Core.Option.{Option, none, some}
use mathlib.Core.List.{List, [], ◌∷◌, map}
use Prim.Native.Nat.{ℕ, zero, suc}
use lib.ListN.{get_or, get_elem?}
use Rattle.meaning.specs.Sets.{In, every, any, only, number}
use Rattle.meaning.specs.Domain.{Domain, Laws}
use Rattle.meaning.specs.Rules.{Term, Atom, Fact, Rule}
use Rattle.meaning.specs.Safety.{positives, equations}
use Rattle.meaning.specs.Instances.{Set, member, Substitution, instance, true_in}
use Rattle.meaning.specs.Matchings.{Placed}
use Rattle.meaning.specs.Matcher.{Match, match_all, Choice, choose, choices}
use Rattle.meaning.specs.Clauses.{Clause, Respects}
use Rattle.meaning.specs.Quick.{clause_of, clauses}
use Rattle.meaning.proofs.Booleans.{and_left, and_right, and_both, not_true, never_false, never_true, none_some, some_inj}
use Rattle.meaning.proofs.Sets.{in_map, any_in, any_none, any_map, any_one, same_any, at_in}
use Rattle.meaning.proofs.Facts.{member_in, in_member}
use Rattle.meaning.proofs.Choices.{chosen_placed}
use Rattle.meaning.proofs.Reduct.{gives_any}
use Rattle.codes.proofs.Pairwise.{within}
use Rattle.derived_set.specs.Members.{bit}
use Rattle.growth.specs.Besides.{body_at}
use Rattle.growth.proofs.Besides.{chosen_besides}
use Rattle.reach.specs.Reach.{position}
use Rattle.reach.proofs.Positions.{position_at, no_position}
use Rattle.subsets.proofs.Numbers.{number_bit}
use Rattle.subset_test.specs.Refuted.{kept_at, keeps_one, refuted_by, refuted_from, refuted}

-- S has the clause's body, and none of its heads
unfoldable pub violates : {A : Type 0} → (A → Bool) → Clause A → Bool
violates S c = every S c.body && not (any S c.heads)

-- ---- no clause is violated exactly where each is respected

module _ {A : Type 0} (S : A → Bool) (C : List (Clause A)) where
  pub respects_none : Respects C S → any (violates S) C ≡ false
  unfolding violates
  respects_none h = never_true (any (violates S) C) (λ t. let q = any_in (violates S) C t in true≢false (sym (h q.0 q.1 (and_left (every S q.0.body) (not (any S q.0.heads)) q.2)) ∙ not_true (any S q.0.heads) (and_right (every S q.0.body) (not (any S q.0.heads)) q.2)))

  pub none_respects : any (violates S) C ≡ false → Respects C S
  unfolding violates
  none_respects h c m b = never_false (any S c.heads) (λ k. true≢false (sym (and_both (every S c.body) (not (any S c.heads)) b (ap not k)) ∙ any_none (violates S) C c m h))

-- ---- the positions of a set

pub map_at : {A : Type 0} (S : A → Bool) (l : List A) (p : ℕ) (a : A) → get_elem? l p ≡ some a → get_or (map S l) p false ≡ S a
map_at S [] p a e = absurd (none_some e)
map_at S (x ∷ xs) zero a e = ap S (some_inj e)
map_at S (x ∷ xs) (suc p) a e = map_at S xs p a e

module _ {U : Type 0} (D : Domain U) (laws : Laws D) (I : List (Fact U)) (S : Set U) where
  abbrev J : ℕ
  J = number S I

  at_kept : (p : ℕ) (f : Fact U) → get_elem? I p ≡ some f → bit J p ≡ S f
  at_kept p f e = number_bit S I p (within I p e) ∙ map_at S I p f e

  position_kept : (f : Fact U) → kept_at J (position D 0 I f) ≡ (member D I f && S f)
  unfolding kept_at
  position_kept f = go (position D 0 I f) refl
    where
      go : (o : Option ℕ) → position D 0 I f ≡ o → kept_at J o ≡ (member D I f && S f)
      go none e = rw (never_true (member D I f) (λ m. no_position D laws 0 I f e (member_in D laws I f m))) refl
      go (some p) e = let h = position_at D laws I f p e in rw (in_member D laws I f (at_in I p f h)) (at_kept p f h)

  -- the heads of an instance
  heads_kept : (σ : Substitution U) (hs : List (Atom (Term U))) → keeps_one D I σ J hs ≡ any S (only (member D I) (map (instance σ) hs))
  unfolding keeps_one any only
  heads_kept σ [] = refl
  heads_kept σ (h ∷ hs) = ap₂ ◌||◌ (position_kept (instance σ h)) (heads_kept σ hs) ∙ go (member D I (instance σ h)) (only (member D I) (map (instance σ) hs))
    where
      go : (b : Bool) (rest : List (Fact U)) → ((b && S (instance σ h)) || any S rest) ≡ any S (cond b (instance σ h ∷ rest) rest)
      go true rest = refl
      go false rest = refl

  -- the positions of a body
  body_kept : (σ : Substitution U) (ats : List (Atom (Term U))) (ps : List ℕ) → Placed I σ ats ps → every (bit J) ps ≡ every S (map (instance σ) ats)
  unfolding every
  body_kept σ [] [] h = refl
  body_kept σ [] (p ∷ ps) h = absurd h
  body_kept σ (a ∷ ats) [] h = absurd h
  body_kept σ (a ∷ ats) (p ∷ ps) h = ap₂ ◌&&◌ (at_kept p (instance σ a) h.0) (body_kept σ ats ps h.1)

  -- ---- a matching

  module _ (r : Rule U) (m : Match U) (i : In m (match_all D I (positives r.body) (λ x. none))) where
    abbrev c : Choice U
    c = choose D (equations r) m

    one_match : refuted_by D I r J m ≡ (every (true_in D (member D I) c.substitution) r.body && violates S (clause_of D I r c.substitution))
    unfolding refuted_by violates clause_of body_at choose choices
    one_match =
        let j : In c (choices D I r) = in_map (choose D (equations r)) m (match_all D I (positives r.body) (λ x. none)) i in
        ap₂ ◌&&◌ (chosen_besides D laws I r c j) (ap₂ (λ (x y : Bool). x && not y) (body_kept c.substitution (positives r.body) c.at (chosen_placed D laws I r c j)) (heads_kept c.substitution r.heads))

  pub refuted_is : (P : List (Rule U)) → refuted D I P J ≡ any (violates S) (clauses D P I)
  unfolding refuted refuted_from clauses choices
  refuted_is P =
      same_any _ _ P (λ r i. same_any _ _ (match_all D I (positives r.body) (λ x. none)) (λ m k. one_match r m k ∙ ap (λ (b : Bool). every (true_in D (member D I) (choose D (equations r) m).substitution) r.body && b) (sym (any_one (violates S) (clause_of D I r (choose D (equations r) m).substitution)))) ∙ sym (any_map _ (choose D (equations r)) (match_all D I (positives r.body) (λ x. none))))
      ∙ sym (gives_any D I (λ r σ. clause_of D I r σ ∷ []) (violates S) P)
