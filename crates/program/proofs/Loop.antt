-- The loop over the rules of a program: those before this one have been read and stand in the tables, and what is remembered is the first
-- case of 5 among their tokens.
use mathlib.Core.Path.{◌≡◌, refl, sym as inv, ap, ◌∙◌}
use mathlib.Core.Bool.{Bool, true, false}
use mathlib.Core.Logic.{◌⊎◌, inl, inr}
use mathlib.Core.List.{List, [], ◌∷◌, ◌++◌, append-nil, append_assoc}
use Prim.Native.Nat.{ℕ, suc, ◌+◌, ◌≤◌, ◌<◌}
use native.Mathlib.Omega.{arith}
use native.Mathlib.Numerals.{add-one}
use lib.Dec.{leb, ltb}
use lib.ListN.{length, length-append}
use Rattle.terms.specs.Cursors.{variables_size}
use borrow.Author.Tests.{leb-false, ltb-true, ltb-false}
use Rattle.std.specs.Prelude.{Option, None}
use Rattle.std.specs.Option.{option_or}
use Rattle.texts.specs.declared.place.Place.{Place}
use Rattle.texts.specs.declared.refusal.Refused.{Refused}
use Rattle.texts.specs.declared.refusal.Refusal.TheVariants.{LongText}
use Rattle.texts.specs.Refusal.{number_of}
use Rattle.reading.specs.Reading.{unplaced, seen, tree, refused}
use Rattle.reading.proofs.Lists.{unplaced_append, seen_append}
use Rattle.meaning.specs.Sets.{every}
use Rattle.meaning.specs.Values.{Value}
use Rattle.meaning.specs.Rules.{Bytes, Rule}
use Rattle.meaning.specs.Safety.{safe}
use Rattle.grammar.specs.Trees.{empty, ◌then◌, count, Rule as Tree, Program}
use Rattle.grammar.specs.Sizes.{too_many, programs}
use Rattle.grammar.specs.Abstraction.{rule_for, rules_for}
use Rattle.texts.specs.Place.{text_start}
use Rattle.texts.specs.Sizes.{most_text}
use Rattle.syntax.specs.Text.{placed_from, end_of}
use Rattle.syntax.specs.Rules.{behind_rules, RulePlace}
use Rattle.syntax.proofs.Lists.{too_many_next}
use Rattle.syntax.proofs.Programs.{reading_of}
use Rattle.stages.specs.Parts.{program, in_text, start_of}
use Rattle.stages.specs.Stage.{on, stops, goes, given, passed, first, without, Reads}
use Rattle.program.specs.declared.put.RuleStart.{RuleStart}
use Rattle.program.specs.declared.put.RulePut.{RulePut}
use Rattle.program.specs.Unbound.{Tokens, dots, met_behind, Unbound}
use Rattle.program.specs.Stage.{tokens_of, token_part, ProgramStage}
use Rattle.program.specs.Puts.{Puttable, PutGoes, PutEnds, PutStops}
use Rattle.program.specs.Rules.{Fillable, FillsRules}
use Rattle.program.specs.Answer.{finished, ProgramStops, ReadsProgram}
use Rattle.program.proofs.Segments.{to_dot, Cut, cut}
use Rattle.program.proofs.Remembered.{dots_append, Remembered, first_case, no_case, remembered_start, remember_on, none_behind}
use Rattle.program.proofs.Safe.{read_is_safe}
use Rattle.program.proofs.Filled.{Filled, filled_start, filled_puttable, filled_whole, filled_on}

pub record Going (text output : Bytes) (names₀ rules₀ literals₀ : List ℕ) (u : Option Place) (at : Place) (n : ℕ) (names variables rules literals : List ℕ) : Type 0 where
  pub few : n ≤ 256
  pub trees : Program false
  pub size : count trees ≡ n
  pub walks : behind_rules false text empty 0 ≡ behind_rules false text trees at.start
  pub before : Tokens
  pub whole : before ++ placed_from false text at.start ≡ tokens_of text
  pub new : met_behind before ≡ []
  pub ended : dots before ≡ length (rules_for trees)
  pub remembered : (more : List (Rule Value)) → Remembered (rules_for trees ++ more) (tokens_of text) (end_of text) (length before) u
  pub names_long : length names ≡ length names₀
  pub variables_long : length variables ≡ variables_size
  pub filled : Filled text output names₀ rules₀ literals₀ trees at n names rules literals

-- ---- the whole answer

in_size : (text : Bytes) → length text ≤ most_text → most_text < length text → ⊥
in_size text fits h = omega arith

module _ {text : Bytes} where
  pub over_size : most_text < length text → ProgramStops text (record { refusal = LongText; place = text_start })
  over_size h = record { part = start_of program; reads = stops 1 _ (given h); place = refl }

  refuses : length text ≤ most_text → (e : Refused) → behind_rules false text empty 0 ≡ refused (number_of e.refusal) e.place → ProgramStops text e
  refuses fits e w = record { part = in_text program e.place; reads = goes tt _ (passed (in_size text fits)) (stops (number_of e.refusal) _ (Reads.fault (number_of e.refusal) e.place (reading_of false text _ w))); place = refl }

module _ {text output : Bytes} {names rules literals names' rules' literals' : List ℕ} (fits : length text ≤ most_text) where
  -- all rules are read, and no case stands behind the tokens of which something is remembered; where they are safe, the tables are filled
  answers : (c : Program false) (u : Option Place) (n : ℕ) → behind_rules false text empty 0 ≡ tree c → Remembered (rules_for c) (tokens_of text) (end_of text) n u → ((j m : ℕ) → Unbound (rules_for c) (tokens_of text) j m → n ≤ j → ⊥) → (every safe (rules_for c) ≡ true → FillsRules text output names rules literals c (count c) names' rules' literals') → ReadsProgram text output names rules literals (finished u (count c)) names' rules' literals'
  answers c u n e (first_case i x f q) none fills =
      rw q
      (record {
        part = token_part text i;
        reads = goes tt _ (passed (in_size text fits)) (goes c _ (Reads.read c (reading_of false text _ e)) (stops 5 _ (first i 5 x (λ j m y. order j m y (f j m y)))));
        place = refl;
      })
    where
      order : (j m : ℕ) → Unbound (rules_for c) (tokens_of text) j m → i ≤ j → (i < j) ⊎ ((i ≡ j) × (5 ≤ m))
      order j m y h = go (ltb i j) refl
        where
          go : (b : Bool) → ltb i j ≡ b → (i < j) ⊎ ((i ≡ j) × (5 ≤ m))
          go true t = inl (ltb-true i j t)
          go false t = let k = ltb-false i j t in inr (omega arith, omega (arith, y.number))
  answers c u n e (no_case h q) none fills =
      let is_read : ProgramStage text (on c) = goes tt _ (passed (in_size text fits)) (goes c _ (Reads.read c (reading_of false text _ e)) (goes tt _ (without (λ i m y. none i m y (h i m y))) refl)) in
      rw q (record { tree = c; reads = is_read; filled = fills (read_is_safe text c is_read) })

-- ---- a turn of the loop

module _ (text output : Bytes) (names₀ rules₀ literals₀ : List ℕ) (fits : length text ≤ most_text) (asked : Fillable text output names₀ rules₀ literals₀) where
  pub going_start : (variables : List ℕ) → length variables ≡ variables_size → Going text output names₀ rules₀ literals₀ None text_start 0 names₀ variables rules₀ literals₀
  unfolding count rules_for dots seen unplaced
  going_start variables wide = record { few = omega arith; trees = empty; size = refl; walks = refl; before = []; whole = refl; new = refl; ended = refl; remembered = λ more. remembered_start more (tokens_of text) (end_of text); names_long = refl; variables_long = wide; filled = filled_start text output names₀ rules₀ literals₀ asked fits }

  module _ (u : Option Place) (at : Place) (n : ℕ) (names variables rules literals : List ℕ) (g : Going text output names₀ rules₀ literals₀ u at n names variables rules literals) where
    -- where the rule with the number k starts
    abbrev start : ℕ → RuleStart
    start k = record { at = at; number = k; over = leb 256 n }

    pub going_puttable : (k : ℕ) → k ≤ n → Puttable text output names variables rules literals (start k)
    going_puttable k low = filled_puttable text output names₀ rules₀ literals₀ asked fits g.trees at n names rules literals g.filled variables (let l = g.variables_long in omega arith) k low

    place : RulePlace false (leb 256 n)
    unfolding too_many
    place = record { rules = g.trees; size = rw g.size (too_many_next 256 n) }

    pub stops_there : (k : ℕ) (e : Refused) → PutStops text (start k) e → ProgramStops text e
    unfolding place
    stops_there k e h = refuses fits e (g.walks ∙ h.answer place)

    pub at_end : (k : ℕ) (names' rules' literals' : List ℕ) → PutEnds text names rules literals (start k) names' rules' literals' → ReadsProgram text output names₀ rules₀ literals₀ (finished u n) names' rules' literals'
    at_end k names' rules' literals' h = rw (← g.size, h.same_names, h.same_rules, h.same_literals) (answers fits g.trees u (length g.before) (g.walks ∙ h.answer g.trees) all (λ o m y. none_behind (rules_for g.trees) g.before (placed_from false text at.start) g.ended o m (rw (← g.whole) at y)) fills)
      where
        all : Remembered (rules_for g.trees) (tokens_of text) (end_of text) (length g.before) u
        all = rw (append-nil (rules_for g.trees)) at (g.remembered [])

        fills : every safe (rules_for g.trees) ≡ true → FillsRules text output names₀ rules₀ literals₀ g.trees (count g.trees) names rules literals
        fills s = rw g.size (filled_whole text output names₀ rules₀ literals₀ asked fits g.trees at n names rules literals g.filled g.size g.few s)

    -- a rule has been put in the rows of its number
    module _ (r : RulePut) (names' rules' literals' : List ℕ) (put : PutGoes text output names rules literals (start n) r names' rules' literals') where
      room : n < 256
      room = leb-false 256 n put.kept

      pub goes_on : length names' ≡ length names₀ → (variables' : List ℕ) → length variables' ≡ variables_size → (v : Option Place) → v ≡ option_or u r.unbound → Going text output names₀ rules₀ literals₀ v r.behind (n + 1) names' variables' rules' literals'
      unfolding count rules_for place
      goes_on long variables' wide v ev =
          record {
            few = omega (arith, room);
            trees = g.trees then x;
            size = ap suc g.size ∙ inv (add-one n);
            walks = g.walks ∙ put.ahead place;
            before = g.before ++ to_dot (placed_from false text at.start);
            whole = append_assoc g.before (to_dot (placed_from false text at.start)) (placed_from false text r.behind.start) ∙ ap (λ l. g.before ++ l) tokens.whole ∙ g.whole;
            new = ap (seen programs []) (unplaced_append g.before (to_dot (placed_from false text at.start))) ∙ seen_append programs [] (unplaced g.before) (unplaced (to_dot (placed_from false text at.start))) ∙ tokens.forgets _;
            ended = dots_append g.before (to_dot (placed_from false text at.start)) ∙ rw (g.ended, tokens.one_dot, length-append (rules_for g.trees) (rule_for x ∷ [])) refl;
            remembered = λ more. rw (append_assoc (rules_for g.trees) (rule_for x ∷ []) more, length-append g.before (to_dot (placed_from false text at.start))) (over more);
            names_long = long;
            variables_long = wide;
            filled = filled_on text output names₀ rules₀ literals₀ asked fits g.trees at n names rules literals g.filled (leb 256 n) x r names' rules' literals' put.stands;
          }
        where
          x : Tree false
          x = put.rule

          tokens : Cut (placed_from false text at.start) (placed_from false text r.behind.start)
          tokens = cut (placed_from false text at.start) (placed_from false text r.behind.start) put.stands.rest

          over : (more : List (Rule Value)) → Remembered (rules_for g.trees ++ rule_for x ∷ more) (tokens_of text) (end_of text) (length g.before + length (to_dot (placed_from false text at.start))) v
          over more = rw ev (rw g.whole at (remember_on (rules_for g.trees) more (rule_for x) g.before (placed_from false text at.start) g.new g.ended (end_of text) u r.unbound (rw (← g.whole) at (g.remembered (rule_for x ∷ more))) put.stands.unbound))
