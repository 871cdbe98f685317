-- A program's text has one outcome at most.
use mathlib.Core.Path.{◌≡◌, sym as inv, ap, ap₂, ◌∙◌}
use mathlib.Core.Bool.{false}
use mathlib.Core.List.{List}
use Prim.Native.Nat.{ℕ, ◌<◌}
use lib.ListN.{length}
use Rattle.std.specs.Prelude.{Result, Ok, Err}
use Rattle.texts.specs.declared.refusal.Refused.{Refused}
use Rattle.texts.specs.Refusal.{number_of}
use Rattle.texts.specs.Sizes.{most_text}
use Rattle.meaning.specs.Rules.{Bytes}
use Rattle.grammar.specs.Trees.{count, Program}
use Rattle.grammar.specs.Sizes.{programs}
use Rattle.grammar.specs.Abstraction.{rules_for}
use Rattle.grammar.proofs.Theorems.{one_reading}
use Rattle.syntax.specs.Text.{end_of}
use Rattle.stages.specs.Parts.{Part, program, in_text, start_of}
use Rattle.stages.specs.Stage.{Outcome, on, stop}
use Rattle.stages.proofs.Unique.{on_stop, on_inj, One, then_one, is_one, refuse_one, first_one, reads_one}
use Rattle.program.specs.Unbound.{Unbound}
use Rattle.program.specs.Stage.{tokens_of, token_part, ProgramStage}
use Rattle.program.specs.Answer.{ReadsProgram}
use Rattle.texts.proofs.Refusals.{number_decides}

pub program_one : (text : Bytes) → One (ProgramStage text)
program_one text = then_one _ _ (refuse_one 1 (start_of program) (most_text < length text)) (λ u. then_one _ _ (reads_one programs (in_text program) (end_of text) (tokens_of text) (one_reading false (end_of text) (tokens_of text))) (λ c. then_one _ _ (first_one (token_part text) (Unbound (rules_for c) (tokens_of text))) (λ v. is_one (on c))))

pub same_refusal : (e f : Refused) (p q : Part) → ◌≡◌ {A = Outcome (Program false)} (stop (number_of e.refusal) p) (stop (number_of f.refusal) q) → e.place ≡ p.place → f.place ≡ q.place → e ≡ f
same_refusal e f p q k ep fq =
    let number : number_of e.refusal ≡ number_of f.refusal = cc in
    let part : p ≡ q = cc in
    ap₂ (λ r a. record { refusal = r; place = a }) (number_decides e.refusal f.refusal number) (ep ∙ ap (λ t. t.place) part ∙ inv fq)

pub reads_program_unique : (text output output₂ : Bytes) (names rules literals names' rules' literals' names₂ rules₂ literals₂ names₂' rules₂' literals₂' : List ℕ) (r s : Result ℕ Refused) → ReadsProgram text output names rules literals r names' rules' literals' → ReadsProgram text output₂ names₂ rules₂ literals₂ s names₂' rules₂' literals₂' → r ≡ s
reads_program_unique text output output₂ names rules literals names' rules' literals' names₂ rules₂ literals₂ names₂' rules₂' literals₂' = go
  where
    go : (r s : Result ℕ Refused) → ReadsProgram text output names rules literals r names' rules' literals' → ReadsProgram text output₂ names₂ rules₂ literals₂ s names₂' rules₂' literals₂' → r ≡ s
    go (Ok n) (Ok m) g h = ap (λ k. Ok k) (g.filled.count_is ∙ ap count (on_inj (program_one text _ _ g.reads h.reads)) ∙ inv h.filled.count_is)
    go (Ok n) (Err e) g h = absurd (on_stop (program_one text _ _ g.reads h.reads))
    go (Err e) (Ok n) g h = absurd (on_stop (program_one text _ _ h.reads g.reads))
    go (Err e) (Err f) g h = ap (λ d. Err d) (same_refusal e f g.part h.part (program_one text _ _ g.reads h.reads) g.place h.place)
