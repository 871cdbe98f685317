-- A facts line as rows: what the functions that read it promise.
use Rattle.std.specs.Prelude.{◌≡◌, true, List, ◌∷◌, ℕ, ◌+◌, ◌*◌, ◌-◌, ◌≤◌, ◌<◌, length, take, get_or, set, Result, Ok, Err}
use Rattle.texts.specs.declared.place.Place.{Place}
use Rattle.texts.specs.declared.refusal.Refused.{Refused}
use Rattle.texts.specs.Refusal.{number_of}
use Rattle.texts.specs.Places.{number_limit}
use Rattle.texts.specs.Parts.{part}
use Rattle.reading.specs.Reading.{tree, refused}
use Rattle.meaning.specs.Rules.{Bytes}
use Rattle.grammar.specs.Trees.{count, Program}
use Rattle.grammar.specs.Sizes.{most_rules}
use Rattle.grammar.specs.Abstraction.{facts_for}
use Rattle.syntax.specs.Programs.{ReadAs}
use Rattle.rule_places.specs.Sentences.{sentence}
use Rattle.codes.specs.Codes.{Coded}
use Rattle.codes.specs.Predicates.{CodedName}
use Rattle.codes.specs.Related.{Pairwise, RelatedAtom}
use Rattle.tables.specs.Layout.{fact_stride}
use Rattle.tables.specs.Rows.{from, fact_predicate, facts_of}
use Rattle.tables.specs.WellFormed.{FactTable}
use Rattle.tables.specs.Stored.{with_row, Kept}
use Rattle.names.specs.Table.{names_of}
use Rattle.rows.specs.Growth.{Room, Grows}
use Rattle.factline.specs.declared.fact.FactRead.{FactRead}

-- the most facts of a line
abbrev pub most_facts : ℕ
most_facts = most_rules true

-- ---- one fact into the tables

-- what is asked: room in the tables, and a place whose numbers fit them
pub record Puttable (facts starts lengths : List ℕ) (number base : ℕ) (fact : FactRead) : Type 0 where
  pub long : number * fact_stride + fact_stride ≤ length facts
  pub starts_long : number < length starts
  pub lengths_long : number < length lengths
  pub number_small : number < most_facts
  pub forward : fact.start ≤ fact.behind.start
  pub small : base + fact.behind.start < number_limit

pub record Put (facts starts lengths : List ℕ) (number base : ℕ) (fact : FactRead) (facts' starts' lengths' : List ℕ) : Type 0 where
  pub row : List ℕ
  pub is_row : row ≡ fact.codes.predicate ∷ fact.codes.terms
  pub nine : length row ≡ fact_stride
  pub facts_so : facts' ≡ with_row facts (number * fact_stride) row
  pub starts_so : starts' ≡ set starts number (base + fact.start)
  pub lengths_so : lengths' ≡ set lengths number (fact.behind.start - fact.start)

-- ---- the line

-- what is asked: a line of the output, room in the table of names for as many as the line has bytes, and room in the other tables
pub record Fillable (program output : Bytes) (line : Place) (names facts starts lengths : List ℕ) : Type 0 where
  pub inside : line.start + line.len ≤ length output
  pub room : Room program output names line.len
  pub facts_long : most_facts * fact_stride ≤ length facts
  pub starts_long : most_facts ≤ length starts
  pub lengths_long : most_facts ≤ length lengths

-- the first n places hold the predicates of the facts in their rows, and every later one is as it was
pub record Listed (facts : List ℕ) (n : ℕ) (before left : List ℕ) : Type 0 where
  pub are_predicates : take n left ≡ from (fact_predicate facts) n 0
  pub kept : Kept 0 n before left

-- the first n places hold f, and every later one is as it was
pub record Holds (f : ℕ → ℕ) (n : ℕ) (before left : List ℕ) : Type 0 where
  pub same_size : length left ≡ length before
  pub first : (k : ℕ) → k < n → get_or left k 0 ≡ f k
  pub later : (k : ℕ) → n ≤ k → get_or left k 0 ≡ get_or before k 0

-- the rows stand for the line's facts, in text order; their predicates and their places in the output are tables of their own
pub record Filled (program output : Bytes) (line : Place) (fs : Program true) (names facts predicates starts lengths : List ℕ) (n : ℕ) (names' facts' predicates' starts' lengths' : List ℕ) : Type 0 where
  pub size : n ≡ count fs
  pub grows : Grows program output names line.len names'
  pub table : FactTable facts' n
  pub stands : Pairwise (RelatedAtom (CodedName (names_of program output names')) (Coded (names_of program output names'))) (facts_of facts' n) (facts_for fs)
  pub are_predicates : take n predicates' ≡ from (fact_predicate facts') n 0
  pub facts_kept : Kept 0 (n * fact_stride) facts facts'
  pub predicates_kept : Kept 0 n predicates predicates'
  pub starts_hold : Holds (λ k. line.start + (sentence true (part output line) k).start) n starts starts'
  pub lengths_hold : Holds (λ k. (sentence true (part output line) k).len) n lengths lengths'

-- so many facts, which stand in the tables
pub record LineHeld (program output : Bytes) (line : Place) (names facts predicates starts lengths : List ℕ) (n : ℕ) (names' facts' predicates' starts' lengths' : List ℕ) : Type 0 where
  pub trees : Program true
  pub reads : ReadAs true (part output line) (tree trees)
  pub filled : Filled program output line trees names facts predicates starts lengths n names' facts' predicates' starts' lengths'

-- a refusal at its place on the line
pub record LineRefused (output : Bytes) (line : Place) (e : Refused) : Type 0 where
  pub refuses : 2 ≤ number_of e.refusal
  pub reads : ReadAs true (part output line) (refused (number_of e.refusal) e.place)

-- so many facts, which stand in the tables once their predicates are listed
pub record RowsHeld (program output : Bytes) (line : Place) (names facts starts lengths : List ℕ) (n : ℕ) (names' facts' starts' lengths' : List ℕ) : Type 0 where
  pub few : n ≤ most_facts
  pub held : (predicates predicates' : List ℕ) → Listed facts' n predicates predicates' → LineHeld program output line names facts predicates starts lengths n names' facts' predicates' starts' lengths'

abbrev pub FillsRows : Bytes → Bytes → Place → (names facts starts lengths : List ℕ) → Result ℕ Refused → (names' facts' starts' lengths' : List ℕ) → Type 0
FillsRows program output line names facts starts lengths (Ok n) names' facts' starts' lengths' = RowsHeld program output line names facts starts lengths n names' facts' starts' lengths'
FillsRows program output line names facts starts lengths (Err e) names' facts' starts' lengths' = LineRefused output line e
