-- Where the comments of a text stand.
use Rattle.std.specs.Prelude.{◌≡◌, ℕ, zero, suc, ◌-◌, Bool, false, ◌&&◌, ◌||◌, ◌==◌, nat_lt, List, [], ◌∷◌, drop, Option, Some, None, if◌then◌else◌}
use Rattle.std.specs.List.{slice_get, filter, prefix_len}
use Rattle.es_token.specs.declared.token.Token.{Token}
use Rattle.es_token.specs.declared.token.Comment.{Comment}
use Rattle.es_comments.specs.declared.place.Stand.{Stand}
use Rattle.es_comments.specs.declared.place.Stand.TheVariants.{Leading, Trailing}
use Rattle.es_comments.specs.Placed.{Placed, comments_at, Ascend}

-- ---- line ends (ECMA-262, "Line Terminators": U+000A, U+000D, U+2028, U+2029)

-- the further bytes of U+2028 or U+2029 stand here
abbrev pub begins_separator : List ℕ → Bool
begins_separator [] = false
begins_separator (b ∷ []) = false
begins_separator (b ∷ c ∷ rest) = b == 128 && (c == 168 || c == 169)

-- a line end stands here
abbrev pub begins_line_end : List ℕ → Bool
begins_line_end [] = false
begins_line_end (a ∷ rest) = a == 10 || (a == 13 || a == 226 && begins_separator rest)

-- a line end begins among the first so many bytes
unfoldable pub line_within : ℕ → List ℕ → Bool
line_within zero text = false
line_within (suc n) [] = false
line_within (suc n) (b ∷ rest) = begins_line_end (b ∷ rest) || line_within n rest

-- a line end begins in the text at a place from `from` on, before `upto`
abbrev pub line_between : List ℕ → ℕ → ℕ → Bool
line_between text from upto = line_within (upto - from) (drop from text)

-- ---- the tokens about a place, of tokens that ascend

abbrev pub begins_before : ℕ → Token → Bool
begins_before place token = nat_lt token.range.start place

-- how many tokens begin before the place
abbrev pub count_before : List Token → ℕ → ℕ
count_before tokens place = prefix_len (begins_before place) tokens

-- the last of the first so many tokens, where there is one
abbrev pub last_of : List Token → ℕ → Option Token
last_of tokens count = if count == 0 then None else slice_get tokens (count - 1)

-- a line end stands between the token and the place
abbrev pub line_behind : List ℕ → Option Token → ℕ → Bool
line_behind text None place = false
line_behind text (Some token) place = line_between text token.range.end place

-- ---- where a comment stands

-- between the last token and the next one, and whether a line end stands behind the last one
abbrev pub stand_between : Option Token → Option Token → Bool → Stand
stand_between None None line = Leading 0
stand_between None (Some next) line = Leading next.range.start
stand_between (Some last) None line = Trailing last.range.end
stand_between (Some last) (Some next) line =
    if line then Leading next.range.start else Trailing last.range.end

-- a comment that starts at the place: trailing at the end of the token before it where no line end stands between them,
-- or where no token follows; else leading at the start of the next token; with no token leading at 0
abbrev pub stand_at : List ℕ → List Token → ℕ → Stand
stand_at text tokens place =
    let last = last_of tokens (count_before tokens place) in
    stand_between last (slice_get tokens (count_before tokens place)) (line_behind text last place)

abbrev pub leads_at : ℕ → Stand → Bool
leads_at place (Leading at) = place == at
leads_at place (Trailing at) = false

abbrev pub trails_at : ℕ → Stand → Bool
trails_at place (Leading at) = false
trails_at place (Trailing at) = place == at

-- ---- where comments stand

abbrev pub some_of : {A : Type 0} → List A → Option (List A)
some_of [] = None
some_of (x ∷ xs) = Some (x ∷ xs)

-- those of the comments that lead, or trail, at a place, in their order
abbrev pub leading_at : List ℕ → List Token → List Comment → ℕ → List Comment
leading_at text tokens comments place =
    filter (λ c. leads_at place (stand_at text tokens c.range.start)) comments

abbrev pub trailing_at : List ℕ → List Token → List Comment → ℕ → List Comment
trailing_at text tokens comments place =
    filter (λ c. trails_at place (stand_at text tokens c.range.start)) comments

-- these are the comments by the places where they stand, and at no place is there an empty list
pub record ArePlaced (text : List ℕ) (tokens : List Token) (comments : List Comment) (placed : Placed) : Type 0 where
  pub leading : (place : ℕ) → comments_at placed.leading place ≡ some_of (leading_at text tokens comments place)
  pub trailing : (place : ℕ) → comments_at placed.trailing place ≡ some_of (trailing_at text tokens comments place)
  pub leading_ascend : Ascend placed.leading
  pub trailing_ascend : Ascend placed.trailing
