-- What joravelsu_mentions leaves in the caller's buffer.
use Rattle.std.specs.Prelude.{◌≡◌, ℕ, Bool, nat_le, List, [], length, map, Option, Some, MatchOption, IsUtf8}
use Rattle.es_token.specs.declared.token.Token.{Token}
use Rattle.es_token.specs.declared.token.Comment.{Comment}
use Rattle.es_grammar.specs.declared.cst.tree.Cst.{Cst}
use Rattle.es_mentions.specs.declared.listed.Reason.{Reason}
use Rattle.es_mentions.specs.declared.listed.Reason.TheVariants as reason
use Rattle.es_mentions.specs.declared.listed.Mention.{Mention}
use Rattle.source_mentions.specs.Answers.{IsTreeOf, AreMentions}
use Rattle.lexical_path.specs.Paths.{parts_at}
use Rattle.media_type.specs.declared.media_type.MediaType.{MediaType}
use Rattle.media_type.specs.declared.media_type.ModuleKind.{ModuleKind}
use Rattle.media_type.specs.declared.media_type.ModuleKind.TheVariants.{Source}
use Rattle.media_type.specs.MediaType.{kind_of}
use Rattle.graph_c.specs.declared.mentions.SourceMention.{SourceMention}
use Rattle.graph_c.specs.declared.mentions.MentionsAnswer.{MentionsAnswer}
use Rattle.graph_c.specs.declared.finding.Finding.{Finding}
use Rattle.graph_c.specs.declared.finding.Finding.TheVariants as finding
use Rattle.graph_c.specs.Finding.{OfBytes, OfText}
use Rattle.graph_c.specs.MediaTypes.{media_type_at}
use Rattle.graph_c.specs.Told.{fault_of, place_of, status_of, after}

-- ---- what is asked

-- the names that bytes allow: their lines; none, where they are no UTF-8
pub data Allows (bytes : List ℕ) (names : List (List ℕ)) : Type 0 where
  of_lines : IsUtf8 bytes → names ≡ parts_at 10 bytes → Allows bytes names
  of_none : ¬ IsUtf8 bytes → names ≡ [] → Allows bytes names

-- ---- what there is to tell

-- what the tree of tokens mentions
pub data OfMentions (allowed : List (List ℕ)) (strict : Bool) (media : MediaType) (text : List ℕ) (tokens : List Token)
    (comments : List Comment) (found : Finding) : Type 0 where
  with_tree : (all : List Mention) → AreMentions media text tokens allowed strict all → found ≡ finding.Mentions all
      → OfMentions allowed strict media text tokens comments found
  -- they have no tree; no place is promised
  no_tree : ((tree : Cst) → ¬ IsTreeOf media tokens tree) → (place : ℕ) → found ≡ finding.Syntax place
      → OfMentions allowed strict media text tokens comments found

-- what bytes of this media type mention, by how its modules are read
abbrev pub MentionsOfKind : List (List ℕ) → Bool → Option ModuleKind → MediaType → List ℕ → Finding → Type 0
MentionsOfKind allowed strict (Some Source) media bytes found =
    OfBytes (OfText (OfMentions allowed strict media)) bytes found
MentionsOfKind allowed strict _ media bytes found = found ≡ finding.NotRead

-- what bytes mention whose media type has this number
abbrev pub HasMentions : List (List ℕ) → Bool → ℕ → List ℕ → Finding → Type 0
HasMentions allowed strict number bytes found =
    MatchOption (media_type_at number) (found ≡ finding.NoMediaType)
    (λ media. MentionsOfKind allowed strict (kind_of media) media bytes found)

-- ---- what is told

-- the number of the header
abbrev pub reason_number : Reason → ℕ
reason_number reason.Name = 0
reason_number reason.Import = 1
reason_number reason.Meta = 2
reason_number reason.With = 3
reason_number reason.Member = 4
reason_number reason.Key = 5
reason_number reason.This = 6

abbrev pub mention_record : Mention → SourceMention
mention_record m = record { reason = reason_number m.reason; start = m.range.start; end = m.range.end }

-- what was found
abbrev pub found_mentions : Finding → List Mention
found_mentions (finding.Mentions all) = all
found_mentions _ = []

-- what is told of a finding
pub record TellsMentions (found : Finding) (mentions new_mentions : List SourceMention) (answer : MentionsAnswer)
    (status : ℕ) : Type 0 where
  pub counts : answer
      ≡ record { mentions = length (found_mentions found); fault = fault_of found; place = place_of found }
  pub records : new_mentions
      ≡ after (nat_le (length (found_mentions found)) (length mentions)) (map mention_record (found_mentions found))
      mentions
  pub ends : status ≡ status_of (nat_le (length (found_mentions found)) (length mentions)) found

-- what a call answers of a source in these bytes whose media type has this number, by what the bytes for names allow
pub data AnswersMentions (allowed : List ℕ) (strict : Bool) (number : ℕ) (bytes : List ℕ)
    (mentions new_mentions : List SourceMention) (answer : MentionsAnswer) (status : ℕ) : Type 0 where
  told : (names : List (List ℕ)) → Allows allowed names → (found : Finding)
      → HasMentions names strict number bytes found → TellsMentions found mentions new_mentions answer status
      → AnswersMentions allowed strict number bytes mentions new_mentions answer status
  -- memory ran out
  no_memory : new_mentions ≡ mentions → answer ≡ record { mentions = 0; fault = 0; place = 0 } → status ≡ 5
      → AnswersMentions allowed strict number bytes mentions new_mentions answer status
