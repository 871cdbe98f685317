-- Terms: where they stand, and the size of a word.
use Rattle.std.specs.Prelude.{◌≡◌, Bool, true, false, ℕ, ◌≤◌, ◌<◌, ℤ, pos, neg_ℤ, Result, Ok, Err}
use Rattle.texts.specs.declared.place.Place.{Place}
use Rattle.texts.specs.declared.refusal.Refusal.TheVariants.{OverSize}
use Rattle.texts.specs.declared.refusal.Refused.{Refused}
use Rattle.meaning.specs.Rules.{Term}
use Rattle.meaning.specs.Values.{Value}
use Rattle.grammar.specs.Trees.{Term as Tree}
use Rattle.grammar.specs.Spelling.{inside, spell_term}
use Rattle.grammar.specs.Abstraction.{term_for}
use Rattle.grammar.specs.Sizes.{most_bytes, too_many}
use Rattle.grammar.specs.States.{TermContext, term_wanted, term_minus, term_read, term_mark}
use Rattle.syntax.specs.Ahead.{wants}
use Rattle.syntax.specs.Fills.{Production}

-- where a term is wanted that is one too many, or not
pub record TermPlace (ground over : Bool) : Type 0 where
  pub context : TermContext ground
  pub size : too_many ground (term_mark context) ≡ over

abbrev pub term_in : (ground over : Bool) → Production ground
term_in ground over = record { Context = TermPlace ground over; Tree = Tree ground; Meant = Term Value; before = λ h. wants (term_wanted h.context); behind = λ h t. wants (term_read h.context t); spelling = spell_term inside; meant = term_for }

-- its number, behind a minus
abbrev pub negative_in : (ground : Bool) → Production ground
negative_in ground = record { Context = TermContext ground; Tree = Tree ground; Meant = Term Value; before = λ h. wants (term_minus h); behind = λ h t. wants (term_read h t); spelling = spell_term inside; meant = term_for }

-- true: behind a minus; so `-0` is 0
unfoldable pub signed : Bool → ℕ → ℤ
signed true n = neg_ℤ (pos n)
signed false n = pos n

-- a word that counts as so many bytes: it has no more than it may have and is none too many, or is refused at its place
abbrev pub FitsWord : Place → ℕ → Bool → Result (Unit {0}) Refused → Type 0
FitsWord place len over (Ok u) = (len ≤ most_bytes) × (over ≡ false)
FitsWord place len over (Err e) = (e ≡ record { refusal = OverSize; place = place }) × (over ≡ false → most_bytes < len)
