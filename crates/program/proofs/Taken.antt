-- What is known of a program's text by its outcome: where it is read, and where it is refused.
use mathlib.Core.Path.{◌≡◌, refl, sym as inv, ap}
use mathlib.Core.Bool.{Bool, true, false}
use mathlib.Core.Logic.{◌⊎◌, inl, inr}
use mathlib.Core.List.{[]}
use Prim.Native.Nat.{ℕ, suc, ◌≤◌, ◌<◌}
use native.Mathlib.Omega.{arith}
use lib.Dec.{ltb}
use lib.ListN.{length}
use borrow.Author.Tests.{ltb-true, ltb-false}
use Rattle.texts.specs.declared.place.Place.{Place}
use Rattle.texts.specs.Sizes.{most_text}
use Rattle.reading.specs.Reading.{Marked, unplaced, seen, Answer, tree, refused, Reading}
use Rattle.meaning.specs.Rules.{Bytes}
use Rattle.grammar.specs.Tokens.{Token}
use Rattle.grammar.specs.Trees.{Program}
use Rattle.grammar.specs.Spelling.{Mark}
use Rattle.grammar.specs.Variables.{Variables}
use Rattle.grammar.specs.Sizes.{refusal, fault, programs}
use Rattle.grammar.specs.Abstraction.{rules_for}
use Rattle.syntax.specs.Text.{end_of}
use Rattle.stages.specs.Parts.{Part, program, in_text, start_of}
use Rattle.stages.specs.Stage.{Outcome, on, stop, Stage, stops, goes, ◌⟫◌, Is, Refuse, given, passed, First, first, without, Reads}
use Rattle.stages.proofs.Unique.{on_stop, on_inj}
use Rattle.program.specs.Unbound.{Unbound}
use Rattle.program.specs.Stage.{tokens_of, token_part, ProgramStage}

-- ---- a text that is read

pub record TakenAs (text : Bytes) (c : Program false) : Type 0 where
  pub size : length text ≤ most_text
  pub reading : Reading programs (end_of text) (tokens_of text) (tree c)
  pub none_unbound : (i n : ℕ) → ¬ Unbound (rules_for c) (tokens_of text) i n

-- what a stage hands on it has from the one before
handed : {A B : Type 0} {S : Stage A} {T : A → Stage B} (o : Outcome B) (b : B) → o ≡ on b → (S ⟫ T) o → (a : A) × S (on a) × T a (on b)
handed o b e (stops n p h) = absurd (on_stop (inv e))
handed o b e (goes a w h k) = (a, h, rw e at k)

module _ (text : Bytes) (c : Program false) where
  in_size : (o : Outcome (Unit {0})) → o ≡ on tt → Refuse 1 (start_of program) (most_text < length text) o → length text ≤ most_text
  in_size o e (given h) = absurd (on_stop (inv e))
  in_size o e (passed h) = go (ltb most_text (length text)) refl
    where
      go : (b : Bool) → ltb most_text (length text) ≡ b → length text ≤ most_text
      go true t = absurd (h (ltb-true most_text (length text) t))
      go false t = ltb-false most_text (length text) t

  its_tree : (o : Outcome (Program false)) → o ≡ on c → Reads programs (in_text program) (end_of text) (tokens_of text) o → Reading programs (end_of text) (tokens_of text) (tree c)
  its_tree o e (Reads.read d h) = let z : d ≡ c = on_inj e in rw z at h
  its_tree o e (Reads.fault n p h) = absurd (on_stop (inv e))

  no_case : (d : Program false) (o : Outcome (Unit {0})) → o ≡ on tt → First (token_part text) (Unbound (rules_for d) (tokens_of text)) o → (i n : ℕ) → ¬ Unbound (rules_for d) (tokens_of text) i n
  no_case d o e (first i n x f) = absurd (on_stop (inv e))
  no_case d o e (without f) = f

  pub read_is_read : ProgramStage text (on c) → TakenAs text c
  read_is_read h =
      let a = handed (on c) c refl h in
      let b = handed (on c) c refl a.2 in
      let d = handed (on c) c refl b.2 in
      let e : b.0 ≡ c = inv (on_inj d.2) in
      record { size = in_size (on a.0) refl a.1; reading = its_tree (on b.0) (ap on e) b.1; none_unbound = rw e at (no_case b.0 (on d.0) refl d.1) }

-- ---- a text that is refused

-- the stage that stops, or the next
halted : {A B : Type 0} {S : Stage A} {T : A → Stage B} (o : Outcome B) (n : ℕ) (p : Part) → o ≡ stop n p → (S ⟫ T) o → S (stop n p) ⊎ ((a : A) × T a (stop n p))
halted {A} {B} {S} {T} o n p e (stops k q h) = let y : k ≡ n = cc in let z : q ≡ p = cc in inl (rw (y, z) at h)
halted o n p e (goes a w h k) = inr (a, rw e at k)

abbrev Between : ℕ → Type 0
Between n = (1 ≤ n) × (n ≤ 5)

refusal_small : (a b : Bool) → refusal a b ≤ 4
unfolding refusal
refusal_small true true = omega arith
refusal_small true false = omega arith
refusal_small false true = omega arith
refusal_small false false = omega arith

module _ (text : Bytes) where
  fault_small : (vs : Variables) (p : Marked Token Mark) → fault false vs p ≤ 4
  unfolding fault
  fault_small vs p = refusal_small _ _

  by_size : (o : Outcome (Unit {0})) (n : ℕ) (p : Part) → o ≡ stop n p → Refuse 1 (start_of program) (most_text < length text) o → Between n
  by_size o n p e (given h) = let z : 1 ≡ n = cc in (omega arith, omega arith)
  by_size o n p e (passed h) = absurd (on_stop e)

  by_answer : (a : Answer Place (Program false)) (n : ℕ) (p : Place) → a ≡ refused n p → Reading programs (end_of text) (tokens_of text) a → Between n
  by_answer a n p e (Reading.read c h w) = let z : ◌≡◌ {A = ℕ} 0 1 = cc in absurd (omega arith)
  by_answer a n p e (Reading.wrong b t l h k w) = let z : 2 ≡ n = cc in (omega arith, omega arith)
  by_answer a n p e (Reading.short h k) = let z : 2 ≡ n = cc in (omega arith, omega arith)
  by_answer a n p e (Reading.over b t l h k m g y f) = let z : suc y ≡ n = cc in (omega arith, omega (arith, f, fault_small (seen programs [] (unplaced b)) (record { token = t.token; mark = m })))

  by_reading : (o : Outcome (Program false)) (n : ℕ) (p : Part) → o ≡ stop n p → Reads programs (in_text program) (end_of text) (tokens_of text) o → Between n
  by_reading o n p e (Reads.read c h) = absurd (on_stop e)
  by_reading o n p e (Reads.fault k q h) = let z : k ≡ n = cc in rw z at (by_answer (refused k q) k q refl h)

  by_case : (d : Program false) (o : Outcome (Unit {0})) (n : ℕ) (p : Part) → o ≡ stop n p → First (token_part text) (Unbound (rules_for d) (tokens_of text)) o → Between n
  by_case d o n p e (first i k x f) = let z : k ≡ n = cc in (omega (arith, x.number), omega (arith, x.number))
  by_case d o n p e (without f) = absurd (on_stop e)

  -- the stages behind the reading, and from it on
  abbrev BoundOn : Program false → Stage (Program false)
  BoundOn c = First (token_part text) (Unbound (rules_for c) (tokens_of text)) ⟫ λ u. Is (on c)

  abbrev ReadsOn : Stage (Program false)
  ReadsOn = Reads programs (in_text program) (end_of text) (tokens_of text) ⟫ BoundOn

  -- its number is one of 1 to 5
  pub refused_between : (n : ℕ) (p : Part) → ProgramStage text (stop n p) → (1 ≤ n) × (n ≤ 5)
  refused_between n p h = one (halted (stop n p) n p refl h)
    where
      three : (c : Program false) → First (token_part text) (Unbound (rules_for c) (tokens_of text)) (stop n p) ⊎ ((u : Unit {0}) × (stop n p ≡ on c)) → Between n
      three c (inl k) = by_case c (stop n p) n p refl k
      three c (inr k) = absurd (on_stop (inv k.1))

      two : Reads programs (in_text program) (end_of text) (tokens_of text) (stop n p) ⊎ ((c : Program false) × BoundOn c (stop n p)) → Between n
      two (inl k) = by_reading (stop n p) n p refl k
      two (inr k) = three k.0 (halted (stop n p) n p refl k.1)

      one : Refuse 1 (start_of program) (most_text < length text) (stop n p) ⊎ ((u : Unit {0}) × ReadsOn (stop n p)) → Between n
      one (inl k) = by_size (stop n p) n p refl k
      one (inr k) = two (halted (stop n p) n p refl k.1)
