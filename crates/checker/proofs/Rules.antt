-- A program that is read into the store: its rules stand there, and what is answered behind it is the answer.
use mathlib.Core.Path.{◌≡◌, ap, ◌∙◌}
use mathlib.Core.Bool.{false}
use mathlib.Core.List.{List, ◌++◌}
use Prim.Native.Nat.{ℕ, ◌≤◌}
use native.Mathlib.Omega.{arith}
use lib.ListN.{length}
use Rattle.std.specs.Prelude.{Ok, Err}
use Rattle.texts.specs.Parts.{bytes_in}
use Rattle.texts.specs.Sizes.{most_text}
use Rattle.texts.specs.declared.refusal.Refused.{Refused}
use Rattle.meaning.specs.Rules.{Bytes}
use Rattle.grammar.specs.Trees.{Program}
use Rattle.grammar.specs.Abstraction.{rules_for}
use Rattle.stages.specs.Stage.{on}
use Rattle.program.specs.Stage.{ProgramStage}
use Rattle.program.specs.Rules.{FillsRules}
use Rattle.program.proofs.Taken.{read_is_read}
use Rattle.program.proofs.Safe.{read_is_safe}
use Rattle.program.proofs.Placed.{refused_placed}
use Rattle.names.specs.Table.{names_of}
use Rattle.names.specs.Numbering.{Empty}
use Rattle.rows.specs.Growth.{Room}
use Rattle.store.specs.Store.{literals_in, rules_in}
use Rattle.filling.specs.Filling.{RulesFilled}
use Rattle.promise.specs.Answered.{Check}
use Rattle.fields.specs.declared.answer.Text.TheVariants.{Program as InProgram}
use Rattle.fields.specs.declared.answer.Answer.{Answer}
use Rattle.fields.specs.Values.{of_fault}
use Rattle.fields.specs.Checked.{Answers}
use Rattle.candidate.specs.Standing.{RulesHeld}
use Rattle.checker.specs.Standing.{names_of_both, WithRules, AnswersRules}
use Rattle.checker.proofs.Filling.{whole_size, cut_whole}
use Rattle.checker.proofs.Ways.{by_program, by_rules}

module _ (program output : Bytes) where
  module _ (c : Program false) (p : ProgramStage program (on c)) (names rules literals : List ℕ) (total : ℕ) (names' rules' literals' : List ℕ) where
    module _ (fills : FillsRules program output names rules literals c total names' rules' literals') where
      rules_held : RulesHeld program output names' rules' literals' total (rules_for c)
      rules_held = record { name_table = fills.grows.in_order; rule_table = fills.table; rules_stand = fills.stands; safe_rules = read_is_safe program c p }

      named : {n : ℕ} → Empty n names → length (names_of program output names') ≤ length program
      named empty =
          let grown : names_of program output names' ≡ fills.grows.more = fills.grows.behind ∙ ap (λ (l : List Bytes). l ++ fills.grows.more) (empty.no_names program output) in
          omega (arith, ap length grown, fills.grows.few)

    -- what was promised of the output's cut holds of the output, where it is within its size
    module _ (within : Bytes) (e : within ≡ bytes_in output whole_size) (fills : FillsRules program within names rules literals c total names' rules' literals') where
      of_output : length output ≤ most_text → FillsRules program output names rules literals c total names' rules' literals'
      of_output size = rw (e ∙ cut_whole output size) at fills

      with_rules_held : length output ≤ most_text → RulesHeld program output names' rules' literals' total (rules_for c)
      with_rules_held size = rules_held (of_output size)

      room_for_facts : Empty (names_of_both program output) names → length output ≤ most_text → Room program output names' (length output)
      room_for_facts empty size = let f = of_output size in record { in_order = f.grows.in_order; room = let r = empty.room in rw f.grows.long (omega (arith, named f empty, (read_is_read program c p).size)) }

  -- ---- what `fill_rules` leaves

  module _ (names store : List ℕ) (within : Bytes) (names' store' : List ℕ) where
    -- the program is read
    module _ (empty : Empty (names_of_both program output) names) (e : within ≡ bytes_in output whole_size) (total : ℕ) (filled : RulesFilled program within names store (Ok total) names' store') where
      held : length output ≤ most_text → RulesHeld program output names' (rules_in store') (literals_in store') total (rules_for filled.reads.tree)
      held = with_rules_held filled.reads.tree filled.reads.reads names filled.rules_before (literals_in store) total names' (rules_in store') (literals_in store') within e filled.reads.filled

      pub rules_ready : WithRules program output names' store' total
      rules_ready =
          record {
            tree_of = filled.reads.tree;
            long = filled.long;
            held = held;
            room = room_for_facts filled.reads.tree filled.reads.reads names filled.rules_before (literals_in store) total names' (rules_in store') (literals_in store') within e filled.reads.filled empty;
          }

      pub rules_answer : (code : ℕ) (places : List ℕ) (a : Answer) (left : List ℕ) → AnswersRules program output code names' store' total places a left → Answers (Check program output code places) places a left
      rules_answer code places a left k = by_rules program output code places filled.reads.tree filled.reads.reads a left (k filled.reads.tree held)

    -- it is refused
    pub refusal_answer : (fault : Refused) → RulesFilled program within names store (Err fault) names' store' → (code : ℕ) (places : List ℕ) (a : Answer) → a ≡ of_fault InProgram fault → Answers (Check program output code places) places a places
    refusal_answer fault filled code places a is =
        by_program program output code places fault (rw (filled.reads.place, ← (refused_placed program _ filled.reads.part filled.reads.reads).within) filled.reads.reads) a is
