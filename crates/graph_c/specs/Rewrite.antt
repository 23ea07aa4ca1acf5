-- What joravelsu_rewrite leaves in the caller's buffer.
use Rattle.std.specs.Prelude.{◌≡◌, ℕ, nat_le, true, List, length, string_bytes, if◌then◌else◌}
use Rattle.es_site.specs.declared.site.Site.{Site}
use Rattle.specifier_edits.specs.declared.numbers.ChangeFault.{ChangeFault}
use Rattle.specifier_edits.specs.declared.numbers.ChangeFault.TheVariants.{NoSite, NoLiteral, NoOrder}
use Rattle.specifier_edits.specs.declared.records.records.SourceChange.{SourceChange}
use Rattle.specifier_edits.specs.declared.records.rewrite.Rewritten.TheVariants.{Made, NoValue, Faulty}
use Rattle.specifier_edits.specs.records.Records.{IsRewritten}
use Rattle.graph_c.specs.declared.finding.Finding.{Finding}
use Rattle.graph_c.specs.declared.finding.Finding.TheVariants.{Found}
use Rattle.graph_c.specs.declared.rewrite.RewriteAnswer.{RewriteAnswer}
use Rattle.graph_c.specs.declared.rewrite.Rewriting.{Rewriting}
use Rattle.graph_c.specs.declared.rewrite.Rewriting.TheVariants.{Done, Unread}
use Rattle.graph_c.specs.Text.{IsText}
use Rattle.graph_c.specs.Finding.{IsFinding}
use Rattle.graph_c.specs.Told.{fault_of, place_of, status_of, after}

-- the number of the header
abbrev pub fault_number : ChangeFault → ℕ
fault_number NoSite = 13
fault_number NoLiteral = 14
fault_number NoOrder = 15

-- ---- what there is to tell

-- the source has sites
abbrev pub HasNone : Finding → Type 0
HasNone (Found sites) = ⊥
HasNone _ = Unit {0}

-- what the records make of the sites that the bytes have, or why these have none
abbrev pub IsRewriting : ℕ → List ℕ → List SourceChange → List ℕ → Rewriting → Type 0
IsRewriting number bytes records values (Done done) =
    (sites : List Site) × (text : List ℕ) × IsFinding number bytes (Found sites) × IsText bytes text
    × IsRewritten text sites records values done
IsRewriting number bytes records values (Unread finding) = IsFinding number bytes finding × HasNone finding

-- ---- what is told

-- the buffer holds the text in its front, where it fits
abbrev pub HoldsText : List ℕ → List ℕ → List ℕ → RewriteAnswer → ℕ → Type 0
HoldsText text old new answer status =
    (answer ≡ record { needed = length text; change = 0; fault = 0; place = 0 })
    × (new ≡ after (nat_le (length text) (length old)) text old)
    × (status ≡ (if nat_le (length text) (length old) then 0 else 4))

-- nothing is written, for this cause
abbrev pub Refuses : ℕ → ℕ → ℕ → List ℕ → List ℕ → RewriteAnswer → ℕ → ℕ → Type 0
Refuses at fault place old new answer status cause =
    (answer ≡ record { needed = 0; change = at; fault = fault; place = place }) × (new ≡ old) × (status ≡ cause)

abbrev pub TellsRewriting : Rewriting → List ℕ → List ℕ → RewriteAnswer → ℕ → Type 0
TellsRewriting (Done (Made text)) old new answer status = HoldsText (string_bytes text) old new answer status
TellsRewriting (Done (NoValue at)) old new answer status = Refuses at 0 0 old new answer status 12
TellsRewriting (Done (Faulty at fault)) old new answer status = Refuses at 0 0 old new answer status (fault_number fault)
TellsRewriting (Unread finding) old new answer status =
    Refuses 0 (fault_of finding) (place_of finding) old new answer status (status_of true finding)

-- what a call answers of a source in these bytes whose media type has this number
pub data AnswersRewrite (number : ℕ) (bytes : List ℕ) (records : List SourceChange) (values : List ℕ)
    (old new : List ℕ) (answer : RewriteAnswer) (status : ℕ) : Type 0 where
  told : (rewriting : Rewriting) → IsRewriting number bytes records values rewriting
      → TellsRewriting rewriting old new answer status
      → AnswersRewrite number bytes records values old new answer status
  -- memory ran out
  no_memory : new ≡ old → answer ≡ record { needed = 0; change = 0; fault = 0; place = 0 } → status ≡ 5
      → AnswersRewrite number bytes records values old new answer status
