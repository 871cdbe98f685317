-- What the function that reads arguments returns. The loop's invariant: the numbers so far stand for the terms that have been read as far
-- as here.
use mathlib.Core.Path.{◌≡◌, refl, ap, ◌∙◌, sym as inv}
use mathlib.Core.Bool.{Bool, true, false}
use mathlib.Core.List.{List, [], ◌∷◌, ◌++◌}
use Prim.Native.Nat.{ℕ, suc, ◌+◌, ◌-◌, ◌≤◌, ◌<◌}
use native.Mathlib.Omega.{arith}
use native.Mathlib.Numerals.{add-one}
use lib.Dec.{leb}
use lib.ListN.{length, take, set, length-set}
use lib.Seq.{take-suc-set}
use borrow.Author.Tests.{ne_eqb, leb-false}
use Rattle.std.specs.Prelude.{Ok}
use Rattle.texts.specs.declared.place.Place.{Place}
use Rattle.texts.specs.declared.refusal.Refused.{Refused}
use Rattle.texts.specs.Place.{Stands, past}
use Rattle.texts.specs.Places.{places_in}
use Rattle.texts.specs.Parts.{part}
use Rattle.meaning.specs.Rules.{Bytes}
use Rattle.grammar.specs.Tokens.{closing}
use Rattle.grammar.specs.Trees.{Sequence, empty, ◌then◌, count, parentheses, arguments, Term as TermTree}
use Rattle.grammar.specs.Spelling.{inside, argument, mere, with_commas, spell_argument, spell_arguments}
use Rattle.grammar.specs.Variables.{meet_symbol, meet, met}
use Rattle.grammar.specs.Abstraction.{terms_for, arguments_for}
use Rattle.grammar.specs.Sizes.{too_big, too_long, too_many, is_underscore, too_many_variables}
use Rattle.grammar.specs.States.{argument_in, opened, term_wanted, term_read, term_mark}
use Rattle.grammar.specs.Moves.{symbol_number, token_number, when, fire, either, try}
use Rattle.grammar.specs.Machine.{after_term, moves, step, finished}
use Rattle.grammar.proofs.Numbers.{try_number, fire_number}
use Rattle.grammar.proofs.Steps.{opened_same}
use Rattle.grammar.proofs.Variables.{met_append, met_term}
use Rattle.syntax.specs.declared.token.TokenRead.{TokenRead}
use Rattle.syntax.specs.declared.separator.Separator.{Separator}
use Rattle.syntax.specs.Text.{token_of, token_read, next_of}
use Rattle.syntax.specs.Variables.{variables_of, Fits}
use Rattle.syntax.specs.Ahead.{Wants, wants, from}
use Rattle.syntax.specs.Fills.{Stops}
use Rattle.syntax.specs.Terms.{TermPlace, term_in}
use Rattle.syntax.specs.Arguments.{ArgumentsPlace, arguments_in, Separated, NotSeparated}
use Rattle.syntax.proofs.Tokens.{token_by, forward, number_here, past_here}
use Rattle.syntax.proofs.Steps.{meets_none, on_kind, wrong_token, same_token}
use Rattle.syntax.proofs.Sizes.{fault_none}
use Rattle.syntax.proofs.Lists.{too_many_next, met_then}
use Rattle.syntax.proofs.Readings.{stops_at}
use Rattle.codes.specs.Related.{Pairwise, end, pair}
use Rattle.codes.proofs.Pairwise.{pairwise_more, pairwise_append}
use Rattle.names.specs.Table.{names_of}
use Rattle.rows.specs.Growth.{Grows}
use Rattle.rows.specs.Coding.{CodedTerm}
use Rattle.rows.proofs.Growth.{grows_none, grows_then, keeps_term}
use Rattle.terms.specs.declared.cursor.Cursor.{Cursor}
use Rattle.terms.specs.declared.term.TermRead.{TermRead}
use Rattle.terms.specs.Cursors.{ReadyCursor, met_before, onward}
use Rattle.terms.specs.Terms.{ReadsTerm}
use Rattle.terms.proofs.Readiness.{met_fits, fits_met, ready_on, codes_wider}
use Rattle.atoms.specs.Arguments.{ReadsArguments}

module _ (program output text : Bytes) (names variables : List ℕ) (k : Cursor) (ready : ReadyCursor program output text names variables k) (t : TokenRead) (et : t ≡ token_read k.ground text k.at.start) where
  -- `()`
  pub arguments_none : t.kind ≡ 6 → (codes : List ℕ) → ReadsArguments program output text names variables k (Ok (record { terms = codes; count = 0; behind = past t.place; met = k.met })) names variables
  unfolding moves try fire either when token_of symbol_number token_number too_big too_long too_many too_many_variables is_underscore meet meet_symbol met spell_arguments arguments_for
  arguments_none ek codes =
      record {
        forward = let l = forward k.ground text k.at.start t et (λ q. let z : ◌≡◌ {A = ℕ} 6 20 = inv ek ∙ q in omega arith) in omega arith;
        stands = past_here k.ground text k.at.start t et (λ q. absurd (let z : ◌≡◌ {A = ℕ} 6 21 = inv ek ∙ q in omega arith));
        kept = refl;
        fits = met_fits ready;
        tree = parentheses;
        means = record { grows = grows_none program output names _ ready.room.in_order; coded = record { few = omega arith; coded = end } };
        names = refl;
        ahead = λ h. on_kind k.ground text k.at.start t et 6 ek (λ z. omega arith) (wants (opened h.context h.negative h.name)) (met_before variables k) (met_before variables k) _ refl (fault_none _ _ _ _ refl refl refl refl) (meets_none text (token_by 6 (part text t.place)) t.place (met_before variables k) refl refl);
      }

-- the cursor where the next argument stands
abbrev pub at_argument : Cursor → Place → ℕ → ℕ → Cursor
at_argument k at met n = onward k at (leb 8 n) met

pub record Going (program output text : Bytes) (names₀ variables₀ : List ℕ) (k : Cursor) (names variables : List ℕ) (at : Place) (met₁ : ℕ) (codes : List ℕ) (n : ℕ) : Type 0 where
  pub fits : Fits (places_in variables met₁)
  pub few : n ≤ 8
  pub eight : length codes ≡ 8
  pub names_long : length names ≡ length names₀
  pub long : length variables ≡ length variables₀
  pub onward : k.at.start ≤ at.start
  pub stands : Stands text at
  pub grows : Grows program output names₀ (at.start - k.at.start) names
  pub terms : Sequence (TermTree k.ground)
  pub size : count terms ≡ n
  pub coded : Pairwise (CodedTerm (names_of program output names)) (take n codes) (terms_for (variables_of text (met_before variables₀ k)) terms)
  pub variables_met : met (variables_of text (met_before variables₀ k)) (with_commas spell_argument terms) ≡ variables_of text (places_in variables met₁)
  pub walks : (h : ArgumentsPlace k.ground) → from k.ground text (wants (opened h.context h.negative h.name)) (met_before variables₀ k) k.at.start ≡ from k.ground text (wants (term_wanted (argument_in h.context h.negative h.name terms))) (places_in variables met₁) at.start

pub going_start : (program output text : Bytes) (names variables : List ℕ) (k : Cursor) → ReadyCursor program output text names variables k → (t : TokenRead) → t ≡ token_read k.ground text k.at.start → (t.kind ≡ 6 → ⊥) → (codes : List ℕ) → length codes ≡ 8 → Going program output text names variables k names variables k.at k.met codes 0
unfolding step finished count terms_for met with_commas
going_start program output text names variables k ready t et ne codes eight =
    record {
      fits = met_fits ready;
      few = omega arith;
      eight = eight;
      names_long = refl;
      long = refl;
      onward = omega arith;
      stands = ready.stands;
      grows = grows_none program output names _ ready.room.in_order;
      terms = empty;
      size = refl;
      coded = end;
      variables_met = refl;
      walks = λ h. same_token k.ground text k.at.start t et (wants (opened h.context h.negative h.name)) (wants (term_wanted (argument_in h.context h.negative h.name empty))) (met_before variables k) (λ z. opened_same h.context h.negative h.name _ t.kind (number_here k.ground text k.at.start t et z) ne) refl;
    }

module _ (program output text : Bytes) (names₀ variables₀ : List ℕ) (k : Cursor) (names variables : List ℕ) (at : Place) (met₁ : ℕ) (codes : List ℕ) (n : ℕ) (g : Going program output text names₀ variables₀ k names variables at met₁ codes n) where
  abbrev v₀ : List Place
  v₀ = met_before variables₀ k

  -- there is room behind what has been read
  pub going_ready : ReadyCursor program output text names₀ variables₀ k → (over : Bool) → ReadyCursor program output text names variables (onward k at over met₁)
  going_ready ready over = ready_on ready (onward k at over met₁) refl g.grows g.onward g.stands (fits_met variables met₁ g.fits) g.long

  place : ArgumentsPlace k.ground → TermPlace k.ground (leb 8 n)
  unfolding too_many term_mark
  place h = record { context = argument_in h.context h.negative h.name g.terms; size = rw g.size (too_many_next 8 n) }

  -- the argument is refused
  pub going_stops : (e : Refused) → Stops (term_in k.ground (leb 8 n)) text at.start (places_in variables met₁) e → Stops (arguments_in k.ground) text k.at.start v₀ e
  unfolding place
  going_stops e w = stops_at place g.walks w

  -- it is read: so there was room
  module _ (r : TermRead) (names' variables' : List ℕ) (gr : ReadsTerm program output text names variables (at_argument k at met₁ n) (Ok r) names' variables') where
    pub going_room : n < 8
    going_room = leb-false 8 n gr.kept

    -- the terms with this one
    abbrev terms : Sequence (TermTree k.ground)
    terms = g.terms then gr.tree

    abbrev v' : List Place
    v' = places_in variables' r.met

    onward_one : k.at.start ≤ r.behind.start
    onward_one = omega (arith, g.onward, gr.forward)

    grows_one : Grows program output names₀ (r.behind.start - k.at.start) names'
    grows_one = grows_then program output g.grows (r.behind.start - k.at.start) gr.means.grows (omega (arith, g.onward, gr.forward))

    coded_one : Pairwise (CodedTerm (names_of program output names')) (take (n + 1) (set codes n r.number)) (terms_for (variables_of text v₀) terms)
    unfolding terms_for
    coded_one =
        rw (add-one n, take-suc-set codes n r.number (let l = going_room in let y = g.eight in omega arith), g.variables_met)
        (pairwise_append (pairwise_more _ (keeps_term program output gr.means.grows) g.coded) (pair gr.means.coded end))

    variables_one : met (variables_of text v₀) (with_commas spell_argument terms) ≡ variables_of text v'
    variables_one = met_then spell_argument (variables_of text v₀) g.terms gr.tree ∙ rw g.variables_met (met_term (argument (suc (count g.terms))) inside (variables_of text (places_in variables met₁)) gr.tree ∙ gr.names)

    -- behind this one
    abbrev wants_one : ArgumentsPlace k.ground → Wants k.ground
    wants_one h = wants (term_read (argument_in h.context h.negative h.name g.terms) gr.tree)

    walks_one : (h : ArgumentsPlace k.ground) → from k.ground text (wants (opened h.context h.negative h.name)) v₀ k.at.start ≡ from k.ground text (wants_one h) v' r.behind.start
    unfolding place
    walks_one h = g.walks h ∙ gr.ahead (place h)

    abbrev t : TokenRead
    t = token_read k.ground text r.behind.start

    -- neither a comma nor the end
    pub going_wrong : (e : Refused) → NotSeparated k.ground text r.behind.start 6 e → Stops (arguments_in k.ground) text k.at.start v₀ e
    unfolding moves after_term try_number fire_number either when finished symbol_number
    going_wrong e w = rw w.is_refused (record { refuses = omega arith; answer = λ h. ap (λ a. a.answer) (walks_one h) ∙ wrong_token k.ground text r.behind.start t refl (wants_one h) v' (rw (ne_eqb t.kind 7 w.no_comma, ne_eqb t.kind 6 w.no_mark)) (λ z. refl) })

    behind_stands : (j : ℕ) → t.kind ≡ j → (j ≡ 21 → ⊥) → Stands text (past t.place)
    behind_stands j y nj = past_here k.ground text r.behind.start t refl (λ q. absurd (nj (inv y ∙ q)))

    behind : (j : ℕ) → t.kind ≡ j → (j ≡ 20 → ⊥) → r.behind.start ≤ next_of t
    behind j y nj = let l = forward k.ground text r.behind.start t refl (λ q. nj (inv y ∙ q)) in omega arith

    module _ (s : Separator) (gs : Separated k.ground text r.behind.start 6 s) where
      -- the last argument
      pub going_end : s.last ≡ true → ReadsArguments program output text names₀ variables₀ k (Ok (record { terms = set codes n r.number; count = n + 1; behind = s.behind; met = r.met })) names' variables'
      unfolding moves after_term try fire either when token_of symbol_number token_number too_big too_long too_many too_many_variables is_underscore meet meet_symbol met spell_arguments arguments_for
      going_end l =
          let y = (gs.last l).1 in
          let b = behind 6 y (λ a. omega arith) in
          rw gs.behind
          (record {
            forward = omega (arith, onward_one, b);
            stands = behind_stands 6 y (λ a. omega arith);
            kept = refl;
            fits = gr.fits;
            tree = arguments g.terms gr.tree;
            means = codes_wider _ (omega (arith, onward_one, b)) (record { grows = grows_one; coded = record { few = let a = going_room in omega arith; coded = coded_one } });
            names = met_append (variables_of text v₀) (with_commas spell_argument g.terms ++ spell_argument (suc (count g.terms)) gr.tree) (mere closing ∷ []) ∙ met_append (variables_of text v₀) (with_commas spell_argument g.terms) (spell_argument (suc (count g.terms)) gr.tree) ∙ inv (met_then spell_argument (variables_of text v₀) g.terms gr.tree) ∙ variables_one;
            ahead = λ h. walks_one h ∙ on_kind k.ground text r.behind.start t refl 6 y (λ a. omega arith) (wants_one h) v' v' _ refl (fault_none _ _ _ _ refl refl refl refl) (meets_none text (token_by 6 (part text t.place)) t.place v' refl refl);
          })

      -- a comma: one more is wanted
      pub going_on : length names' ≡ length names₀ → length variables' ≡ length variables₀ → s.last ≡ false → Going program output text names₀ variables₀ k names' variables' s.behind r.met (set codes n r.number) (n + 1)
      unfolding moves after_term try fire either when token_of symbol_number token_number too_big too_long too_many too_many_variables is_underscore meet meet_symbol count
      going_on names_long long l =
          let y = gs.comma l in
          let b = behind 7 y (λ a. omega arith) in
          rw gs.behind
          (record {
            fits = gr.fits;
            few = let a = going_room in omega arith;
            eight = length-set codes n r.number ∙ g.eight;
            names_long = names_long;
            long = long;
            onward = omega (arith, onward_one, b);
            stands = behind_stands 7 y (λ a. omega arith);
            grows = grows_then program output grows_one _ (grows_none program output names' 0 grows_one.in_order) (omega (arith, onward_one, b));
            terms = terms;
            size = ap suc g.size ∙ inv (add-one n);
            coded = coded_one;
            variables_met = variables_one;
            walks = λ h. walks_one h ∙ on_kind k.ground text r.behind.start t refl 7 y (λ a. omega arith) (wants_one h) v' v' _ refl (fault_none _ _ _ _ refl refl refl refl) (meets_none text (token_by 7 (part text t.place)) t.place v' refl refl);
          })
