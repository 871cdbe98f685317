-- Which subsets of the candidate the matchings of rules refute. A subset is named by its number, with a bit for each position of the candidate.
use Rattle.std.specs.Prelude.{Bool, false, not, ◌&&◌, List, ℕ}
use Rattle.std.proofs.Math.Option.{Option, none, some}
use Rattle.meaning.specs.Sets.{every, any}
use Rattle.meaning.specs.Domain.{Domain}
use Rattle.meaning.specs.Rules.{Term, Atom, Fact, Rule}
use Rattle.meaning.specs.Safety.{positives, equations}
use Rattle.meaning.specs.Instances.{Substitution, member, instance}
use Rattle.meaning.specs.Matchings.{Values}
use Rattle.meaning.specs.Matcher.{Match, match_all, complete, total}
use Rattle.derived_set.specs.Members.{bit}
use Rattle.growth.specs.Besides.{body_at}
use Rattle.reach.specs.Reach.{position}

-- there is a position, and J keeps it
unfoldable pub kept_at : ℕ → Option ℕ → Bool
kept_at J none = false
kept_at J (some a) = bit J a

-- J keeps an instance of one of these atoms
unfoldable pub keeps_one : {U : Type 0} → Domain U → List (Fact U) → Substitution U → ℕ → List (Atom (Term U)) → Bool
keeps_one D I σ J hs = any (λ h. kept_at J (position D 0 I (instance σ h))) hs

-- the body is true in the candidate and in J, and J keeps no head
unfoldable pub refuted_by : {U : Type 0} → Domain U → List (Fact U) → Rule U → ℕ → Match U → Bool
refuted_by D I r J m = body_at D (member D I) r m.values && (every (bit J) m.at && not (keeps_one D I (total D (complete D (equations r) m.values)) J r.heads))

-- some matching that gives these atoms facts, from the values ρ on, refutes J
unfoldable pub refuted_from : {U : Type 0} → Domain U → List (Fact U) → Rule U → List (Atom (Term U)) → Values U → ℕ → Bool
refuted_from D I r ats ρ J = any (refuted_by D I r J) (match_all D I ats ρ)

-- some matching of some rule does
unfoldable pub refuted : {U : Type 0} → Domain U → List (Fact U) → List (Rule U) → ℕ → Bool
refuted D I P J = any (λ r. refuted_from D I r (positives r.body) (λ x. none) J) P
