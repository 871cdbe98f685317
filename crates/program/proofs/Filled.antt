-- The tables as rules are stored: the rows so far stand for the rules so far, and there is room for another.
use mathlib.Core.Path.{◌≡◌, refl, sym}
use mathlib.Core.Bool.{Bool, true, false}
use mathlib.Core.List.{List, [], ◌∷◌}
use Prim.Native.Nat.{ℕ, suc, ◌+◌, ◌-◌, ◌*◌, ◌≤◌, ◌<◌, min}
use native.Mathlib.Omega.{arith}
use lib.Dec.{leb, ltb}
use lib.ListN.{length}
use lib.Seq.{take-length}
use Rattle.terms.specs.Cursors.{variables_size}
use Rattle.texts.specs.declared.place.Place.{Place}
use Rattle.texts.specs.Sizes.{most_text}
use borrow.Author.Tests.{leb-false, ltb-true, ltb-false, lt-ltb}
use Rattle.reading.specs.Reading.{◌▹◌}
use Rattle.texts.specs.Place.{text_start, Stands as PlaceStands}
use Rattle.texts.proofs.Counting.{start_stands}
use Rattle.meaning.specs.Sets.{every}
use Rattle.meaning.specs.Rules.{Bytes}
use Rattle.meaning.specs.Safety.{safe}
use Rattle.meaning.proofs.Booleans.{and_both, and_left, and_right}
use Rattle.grammar.specs.Trees.{empty, ◌then◌, count, Rule, Program}
use Rattle.grammar.specs.Abstraction.{rule_for, rules_for}
use Rattle.codes.specs.Codes.{Coded}
use Rattle.codes.specs.Predicates.{CodedName}
use Rattle.codes.specs.Related.{Pairwise, end, pair, RelatedRule}
use Rattle.codes.proofs.Pairwise.{pairwise_append}
use Rattle.tables.specs.Layout.{literal_stride, rule_stride, rule_rows}
use Rattle.tables.specs.Rows.{from, rule_at, rules_of}
use Rattle.tables.specs.WellFormed.{RuleRow}
use Rattle.tables.specs.Stored.{Kept}
use Rattle.tables.proofs.Stored.{kept_self, kept_then, kept_wider}
use Rattle.tables.proofs.Strides.{from_on}
use Rattle.names.specs.Texts.{bytes_at}
use Rattle.names.specs.Table.{most_names, names_of}
use Rattle.names.specs.Numbering.{Empty}
use Rattle.rows.specs.Growth.{Source, Grows}
use Rattle.rows.proofs.Growth.{grows_none, grows_then, room_after, keeps_rules}
use Rattle.program.specs.declared.put.RulePut.{RulePut}
use Rattle.program.specs.Puts.{Puttable, Owns, Stands}
use Rattle.program.specs.Rules.{rules_size, literals_size, Fillable, FillsRules}
use Rattle.program.proofs.Growing.{Agrees, later_agrees, grown_owns, same_rule, grown_row}

-- the program stands at the start of the two texts
at_start : (program output : Bytes) → Source program output program 0
unfolding bytes_at
at_start [] output = refl
at_start (b ∷ program) output = rw (lt-ltb 0 (suc (length program)) (omega arith)) (sym (take-length (b ∷ program)))

every_before : {A : Type 0} (f : A → Bool) (l : List A) (x : A) → every f (l ▹ x) ≡ true → (every f l ≡ true) × (f x ≡ true)
unfolding every
every_before f [] x h = (refl, and_left (f x) true h)
every_before f (y ∷ l) x h = let q = every_before f l x (and_right (f y) (every f (l ▹ x)) h) in (and_both (f y) (every f l) (and_left (f y) (every f (l ▹ x)) h) q.0, q.1)

-- a table of names with none, and with room for the program's
pub empty_fillable : (program output : Bytes) (names rules literals : List ℕ) → Empty (min most_names (length program)) names → (length program ≤ most_text → length output ≤ most_text) → rules_size ≤ length rules → literals_size ≤ length literals → Fillable program output names rules literals
empty_fillable program output names rules literals fresh small long wide =
    record {
      room = λ fits. record { in_order = fresh.in_order program output fits (small fits); room = let r = fresh.room in rw (fresh.no_names program output) (omega arith) };
      rules_long = long;
      literals_long = wide;
    }

-- n rules have been stored, those of p, as far as a place of the program; their rows are as the engine asks where they are safe
pub record Filled (program output : Bytes) (names₀ rules₀ literals₀ : List ℕ) (p : Program false) (at : Place) (n : ℕ) (names rules literals : List ℕ) : Type 0 where
  pub placed : PlaceStands program at
  pub grows : Grows program output names₀ at.start names
  pub rules_kept : Kept 0 (n * rule_stride) rules₀ rules
  pub literals_kept : Kept 0 (n * rule_rows * literal_stride) literals₀ literals
  pub owned : (k : ℕ) → k < n → Owns rules k
  pub rows : every safe (rules_for p) ≡ true → (k : ℕ) → k < n → RuleRow rules literals k
  pub stands : Pairwise (RelatedRule (CodedName (names_of program output names)) (Coded (names_of program output names))) (rules_of rules literals n) (rules_for p)

module _ (program output : Bytes) (names₀ rules₀ literals₀ : List ℕ) (asked : Fillable program output names₀ rules₀ literals₀) (fits : length program ≤ most_text) where
  pub filled_start : Filled program output names₀ rules₀ literals₀ empty text_start 0 names₀ rules₀ literals₀
  unfolding from rules_for
  filled_start =
      record {
        placed = start_stands program;
        grows = grows_none program output names₀ 0 (asked.room fits).in_order;
        rules_kept = kept_self 0 0 rules₀;
        literals_kept = kept_self 0 0 literals₀;
        owned = λ k h. absurd (let y : ⊥ = omega arith in y);
        rows = λ s k h. absurd (let y : ⊥ = omega arith in y);
        stands = end;
      }

  module _ (p : Program false) (at : Place) (n : ℕ) (names rules literals : List ℕ) (g : Filled program output names₀ rules₀ literals₀ p at n names rules literals) where
    -- room for the rule with a number up to this one, if it is not one too many
    pub filled_puttable : (variables : List ℕ) → variables_size ≤ length variables → (k : ℕ) → k ≤ n → Puttable program output names variables rules literals (record { at = at; number = k; over = leb 256 n })
    filled_puttable variables wide k low =
        record {
          ready =
              record {
                ready = record { ready = record { source = at_start program output; short = fits; stands = g.placed; room = room_after program output g.grows (length program - at.start) (asked.room fits) (let i = g.placed.inside in omega arith); few = omega arith; long = wide }; in_program = refl };
                none_met = refl;
                long = λ o. (let m = leb-false 256 n o in let a = g.literals_kept.long in let b = asked.literals_long in omega arith);
              };
          rules_long = λ o. (let m = leb-false 256 n o in let a = g.rules_kept.long in let b = asked.rules_long in omega arith);
        }

    pub filled_whole : count p ≡ n → n ≤ 256 → every safe (rules_for p) ≡ true → FillsRules program output names₀ rules₀ literals₀ p n names rules literals
    filled_whole size few safe_rules =
        record {
          count_is = sym size;
          grows = grows_then program output g.grows (length program) (grows_none program output names 0 g.grows.in_order) (let i = g.placed.inside in omega arith);
          rules_kept = g.rules_kept;
          literals_kept = g.literals_kept;
          table = record { few = omega arith; rule = g.rows safe_rules };
          stands = g.stands;
        }

    module _ (over : Bool) (x : Rule false) (r : RulePut) (names' rules' literals' : List ℕ) (s : Stands program output names rules literals (record { at = at; number = n; over = over }) x r names' rules' literals') where
      agrees : (k : ℕ) → k < n → Agrees rules rules' literals literals' k
      agrees k h = later_agrees rules rules' literals literals' k n s.rules_kept s.literals_kept h

      pub filled_on : Filled program output names₀ rules₀ literals₀ (p then x) r.behind (n + 1) names' rules' literals'
      unfolding rules_for
      filled_on =
          record {
            placed = s.placed;
            grows = grows_then program output g.grows r.behind.start s.grows (let f = s.forward in omega arith);
            rules_kept = kept_then (kept_wider g.rules_kept 0 ((n + 1) * rule_stride) (omega arith) (omega arith)) (kept_wider s.rules_kept 0 ((n + 1) * rule_stride) (omega arith) (omega arith));
            literals_kept = kept_then (kept_wider g.literals_kept 0 ((n + 1) * rule_rows * literal_stride) (omega arith) (omega arith)) (kept_wider s.literals_kept 0 ((n + 1) * rule_rows * literal_stride) (omega arith) (omega arith));
            owned = λ k h. owned k h (ltb k n) refl;
            rows = λ a k h. rows (every_before safe (rules_for p) (rule_for x) a) k h (ltb k n) refl;
            stands =
                rw (from_on (rule_at rules' literals') (rule_at rules literals) n (λ k h. same_rule rules rules' literals literals' k (agrees k h) (g.owned k h)))
                (pairwise_append (keeps_rules program output s.grows g.stands) (pair s.stands end));
          }
        where
          owned : (k : ℕ) → k < n + 1 → (t : Bool) → ltb k n ≡ t → Owns rules' k
          owned k h true e = let l = ltb-true k n e in grown_owns rules rules' literals literals' k (agrees k l) (g.owned k l)
          owned k h false e = let l = ltb-false k n e in let z : k ≡ n = omega arith in rw z s.owns

          rows : (every safe (rules_for p) ≡ true) × (safe (rule_for x) ≡ true) → (k : ℕ) → k < n + 1 → (t : Bool) → ltb k n ≡ t → RuleRow rules' literals' k
          rows a k h true e = let l = ltb-true k n e in grown_row rules rules' literals literals' k (agrees k l) (g.owned k l) (g.rows a.0 k l)
          rows a k h false e = let l = ltb-false k n e in let z : k ≡ n = omega arith in rw z (s.row a.1)
