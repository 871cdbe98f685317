-- What the writer writes is taken again by the reader of programs, as the same rules: none of refusals 1 to 5 is given to a plain form.
-- The statements stand at the end.
use mathlib.Core.Path.{◌≡◌, refl, ap, ◌∙◌}
use mathlib.Core.Bool.{false}
use mathlib.Core.Option.{Option, none, some}
use mathlib.Core.List.{[]}
use Prim.Native.Nat.{ℕ}
use native.Mathlib.Omega.{arith}
use lib.ListN.{length, take, drop}
use lib.Seq.{take-append_seam}
use Rattle.std.specs.Prelude.{Result, IfOk}
use Rattle.texts.specs.declared.refusal.Refused.{Refused}
use Rattle.meaning.specs.Rules.{Bytes}
use Rattle.meaning.specs.Safety.{bound}
use Rattle.grammar.specs.Trees.{empty, ◌then◌, Heads, Rule, fact, clause, Program}
use Rattle.grammar.specs.Spelling.{inside, with_commas, spell_nth_literal}
use Rattle.grammar.specs.Variables.{met}
use Rattle.grammar.specs.Abstraction.{rule_for, rules_for}
use Rattle.grammar.specs.PlainForm.{each, plain_literal, plain_head, plain_rule, plain_form}
use Rattle.grammar.proofs.Plainer.{plainer_listed, plainer_literal, plainer_heads}
use Rattle.grammar.proofs.PlainTheorems.{plain_same}
use Rattle.stages.specs.Stage.{on}
use Rattle.program.specs.Stage.{ProgramStage}
use Rattle.program.proofs.Numbered.{head_variables, rule_variables}
use Rattle.program.proofs.Taken.{read_is_read}
use Rattle.program.proofs.Safe.{RuleBound, AllBound, read_is_bound}
use Rattle.program.proofs.Bound.{taken}
use Rattle.plainform.specs.PlainBytes.{plain_bytes}
use Rattle.plainform.proofs.Theorems.{plain_read, plain_no_longer}
use Rattle.plain.specs.Answer.{WritesProgram, Writes, refuses, takes}

-- ---- a rule in plain form has the same variables, and means the same

same_head : (h : Option (Heads false)) → head_variables (plain_head h) ≡ head_variables h
unfolding head_variables plain_head
same_head none = refl
same_head (some hs) = (plainer_heads inside hs).same []

same_variables : (r : Rule false) → rule_variables (plain_rule r) ≡ rule_variables r
unfolding rule_variables head_variables plain_rule each
same_variables (fact hs) = (plainer_heads inside hs).same []
same_variables (clause u h ls l) = ap (λ vs. met vs (with_commas spell_nth_literal (each plain_literal (ls then l)))) (same_head h) ∙ (plainer_listed {ground = false} spell_nth_literal plain_literal (λ k x. plainer_literal _ x) (ls then l)).same (head_variables h)

same_rule : (r : Rule false) → rule_for (plain_rule r) ≡ rule_for r
unfolding rules_for plain_form each
same_rule r = let e = plain_same (empty then r) in cc

-- so they are bound where they were
plain_rule_bound : (r : Rule false) → RuleBound r → RuleBound (plain_rule r)
plain_rule_bound r h y l = ap (λ m. bound m y) (same_rule r) ∙ h y (omega (arith, ap length (same_variables r)))

plain_bound : (p : Program false) → AllBound p → AllBound (plain_form p)
unfolding plain_form each
plain_bound empty h = tt
plain_bound (p then r) h = (plain_bound p h.0, plain_rule_bound r h.1)

-- ---- the statements

-- a text that is taken has a plain form that is taken, as the tree in plain form, which stands for the same rules
pub plain_taken : (text : Bytes) (c : Program false) → ProgramStage text (on c) → ProgramStage (plain_bytes c) (on (plain_form c))
plain_taken text c h =
    let t = read_is_read text c h in
    taken (plain_bytes c) (plain_form c) (omega (arith, t.size, plain_no_longer text c t.reading)) (plain_read text c t.reading) (plain_bound c (read_is_bound text c h))

-- what the writer leaves behind a success: the bytes at the buffer's start are taken as the rules of the text
pub record TakenAgain (text left : Bytes) (n : ℕ) : Type 0 where
  pub program : Program false
  pub was_taken : ProgramStage text (on program)
  pub again : Program false
  pub is_taken : ProgramStage (take n left) (on again)
  pub same_rules : rules_for again ≡ rules_for program

program_taken : (text buffer : Bytes) (c : Program false) → ProgramStage text (on c) → (a : Result ℕ Refused) (left : Bytes) → WritesProgram c buffer a left → IfOk a (TakenAgain text left)
program_taken text buffer c s _ _ (WritesProgram.short h) = tt
program_taken text buffer c s _ _ (WritesProgram.writes h) = record { program = c; was_taken = s; again = plain_form c; is_taken = rw (take-append_seam (plain_bytes c) (drop (length (plain_bytes c)) buffer)) (plain_taken text c s); same_rules = plain_same c }

pub written_taken : (text buffer : Bytes) (a : Result ℕ Refused) (left : Bytes) → Writes text buffer a left → IfOk a (TakenAgain text left)
written_taken text buffer a left (refuses e p r q) = tt
written_taken text buffer a left (takes c s b l h) = program_taken text buffer c s b l h
