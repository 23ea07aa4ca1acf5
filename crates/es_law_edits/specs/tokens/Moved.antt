-- Where the tokens and comments of a text stand after other string literals were put in the places of some of its own.
use Rattle.std.specs.Prelude.{◌≡◌, ℕ, ◌+◌, ◌-◌, ◌==◌, Bool, ◌&&◌, nat_le, List, [], ◌∷◌, length, map, slice_range, ◌⊎◌, if◌then◌else◌}
use Rattle.base.specs.declared.range.Range.{Range}
use Rattle.es_literal.specs.Strings.{IsString}
use Rattle.es_token.specs.declared.token.Token.{Token}
use Rattle.es_token.specs.declared.token.Comment.{Comment}
use Rattle.es_token.specs.declared.token.TokenKind.TheVariants.{Str}
use Rattle.es_lexer.specs.Reads.{Reads}
use Rattle.grammar_theory.specs.Key.{keys_of}
use Rattle.source_text.specs.declared.text_changes.change.TextChange.{TextChange}
use Rattle.source_text.specs.text_changes.Changes as text

-- ---- which literals have others in their places

-- the change puts a string literal in the place of this token, which is one
pub record Replaces (t : Token) (c : TextChange) : Type 0 where
  pub literal : t.kind ≡ Str
  pub starts : c.range.start ≡ t.range.start
  pub ends : c.range.end ≡ t.range.end
  pub other : IsString c.new_text

-- the changes do so to some of these tokens, in their order
abbrev pub Chosen : List Token → List TextChange → Type 0
Chosen ts [] = Unit {0}
Chosen [] (c ∷ cs) = ⊥
Chosen (t ∷ ts) (c ∷ cs) = (Replaces t c × Chosen ts cs) ⊎ Chosen ts (c ∷ cs)

-- ---- where a place of the old text stands in the new one

-- how many bytes the changes that end at or before a place write
unfoldable pub added : List TextChange → ℕ → ℕ
added [] at = 0
added (c ∷ cs) at = (if nat_le c.range.end at then length c.new_text else 0) + added cs at

-- and how many they take away
unfoldable pub removed : List TextChange → ℕ → ℕ
removed [] at = 0
removed (c ∷ cs) at = (if nat_le c.range.end at then c.range.end - c.range.start else 0) + removed cs at

-- starts and ends move alike
unfoldable pub moved : List TextChange → ℕ → ℕ
moved cs at = at + added cs at - removed cs at

abbrev pub range_to : (ℕ → ℕ) → Range → Range
range_to m r = record { start = m r.start; end = m r.end }

abbrev pub token_to : (ℕ → ℕ) → Token → Token
token_to m t = record { kind = t.kind; range = range_to m t.range; line_before = t.line_before; partner = t.partner }

abbrev pub comment_to : (ℕ → ℕ) → Comment → Comment
comment_to m c = record { kind = c.kind; range = range_to m c.range; text = c.text }

-- ---- and what stands there

abbrev pub cut : List ℕ → Range → List ℕ
cut x r = slice_range x r.start r.end

abbrev pub is_range : Range → Range → Bool
is_range r s = r.start == s.start && r.end == s.end

-- the new text of the change of this range; of any other range what the old text has there
unfoldable pub text_to : List TextChange → List ℕ → Range → List ℕ
text_to [] x r = cut x r
text_to (c ∷ cs) x r = if is_range c.range r then c.new_text else text_to cs x r

-- the text with the changes is read as the tokens and comments that moved; the tokens have the keys of the old ones, by
-- which the grammar reads them, and stand for their texts, but where these have changed
pub record Moved (x : List ℕ) (ts : List Token) (cs : List Comment) (changes : List TextChange) : Type 0 where
  pub reads : Reads (text.changed x 0 changes) (map (token_to (moved changes)) ts) (map (comment_to (moved changes)) cs)
  pub keys : keys_of ts ≡ keys_of (map (token_to (moved changes)) ts)
  pub texts : map (λ (t : Token). cut (text.changed x 0 changes) (range_to (moved changes) t.range)) ts
      ≡ map (λ (t : Token). text_to changes x t.range) ts
