-- Line ends before a place, the table of line starts, and where a text may be cut.
use Rattle.std.proofs.Common.{Bor, Some, ◌≡◌, ℕ, ◌+◌, ◌-◌, ◌<◌, ◌≤◌, Bool, true, false, ◌==◌, nat_eq, List, [], ◌∷◌, ◌++◌, length, take, get_or, refl, sym, ◌∙◌, ap, subst, arith, leb-true, leb-false, leb, ◌⊎◌, inl, inr}
use Rattle.std.specs.Bool.{if◌then◌else◌}
use Rattle.std.specs.Prelude.{slice_index, nat_lt, ◌&&◌}
use Rattle.std.specs.Str.{IsUtf8, IsCharBoundary, chars}
use Rattle.std.specs.List.{count_by}
use Rattle.std.specs.Slice.{IsItemAt}
use Rattle.std.specs.List.Sorted.{IsNonDecreasingBy, IsPartitionPoint}
use Rattle.std.proofs.Math.Nat.{lt_of_not-le, eq-or-lt_of_le, eq-zero-or-pos}
use Rattle.std.proofs.lemmas.Bool.Decides.{nat_tests}
use Rattle.std.proofs.lemmas.List.{take-take, take_all, length-append, get_or_push, get_or_append_left}
use Rattle.std.proofs.lemmas.List.Sums.{sum_by-take-le, count_by_more_yes, count_by_more_no, count_by-le-length}
use Rattle.std.proofs.lemmas.List.Sorted.{IsNonDecreasingBy-from_default}
use Rattle.std.proofs.lemmas.Str.{IsCharBoundary-start, IsCharBoundary-end, IsCharBoundary-before_ascii, IsCharBoundary-after_ascii, encodes-chars, length-le-encodes}
use Rattle.source_text.specs.Lines.{line_index, last_line, IsStart, IsStop, IsEnd, before_return}
use Rattle.source_text.specs.Table.{HasStarts, IsTable}

-- ---- line ends before a place
-- a later place has no fewer line ends before it
pub line_index-mono : (text : List ℕ) (early late : ℕ) → early ≤ late → line_index text early ≤ line_index text late
line_index-mono text early late order =
    subst (λ (front : List ℕ). count_by (λ b. b == 10) front ≤ line_index text late) (take-take early late text order)
    (sum_by-take-le _ (take late text) early)

-- one more behind a line end
pub line_index-more : (text : List ℕ) (place : ℕ) → place < length text → get_or text place 0 ≡ 10
    → line_index text (place + 1) ≡ line_index text place + 1
line_index-more text place inside is =
    count_by_more_yes (λ b. b == 10) text place 0 inside (ap (λ (b : ℕ). b == 10) is)

-- and none behind another byte
pub line_index-same : (text : List ℕ) (place : ℕ) → place < length text → (get_or text place 0 == 10) ≡ false
    → line_index text (place + 1) ≡ line_index text place
line_index-same text place inside other = count_by_more_no (λ b. b == 10) text place 0 inside other

-- the same, told from the place behind the line end
behind_end : (text : List ℕ) (place : ℕ) → 0 < place → place ≤ length text → get_or text (place - 1) 0 ≡ 10
    → line_index text place ≡ line_index text (place - 1) + 1
behind_end text place some within is =
    let back : place - 1 + 1 ≡ place = omega arith in
    subst (λ (p : ℕ). line_index text p ≡ line_index text (place - 1) + 1) back
    (line_index-more text (place - 1) (omega arith) is)

-- each place before the start of a line is in an earlier one
pub before_start : (text : List ℕ) (line place pos : ℕ) → IsStart text line place → pos < place
    → line_index text pos < line
before_start text line place pos start early =
    let more = behind_end text place (omega arith) start.within (start.first (omega arith)) in
    let rises = line_index-mono text pos (place - 1) (omega arith) in
    omega (arith, more, rises, start.here)

-- ---- the table
-- the first line starts at 0
pub HasStarts-first : (text : List ℕ) → HasStarts text 0 (0 ∷ [])
HasStarts-first text = record {
  count = refl;
  each = λ line inside. let e : line ≡ 0 = omega arith in
      rw e (record { within = omega arith; here = refl; first = λ some. absurd (omega (arith, some)) });
}

-- a byte that ends no line starts none
pub HasStarts-same : (text : List ℕ) (place : ℕ) (starts : List ℕ) → place < length text
    → (get_or text place 0 == 10) ≡ false
    → HasStarts text place starts → HasStarts text (place + 1) starts
HasStarts-same text place starts inside other so_far = record {
  count = so_far.count ∙ ap (λ (n : ℕ). n + 1) (sym (line_index-same text place inside other));
  each = so_far.each;
}

-- one more start at the end
each_push : (text starts : List ℕ) (place : ℕ)
    → ((line : ℕ) → line < length starts → IsStart text line (get_or starts line 0))
    → IsStart text (length starts) place
    → (line : ℕ) → line < length (starts ++ place ∷ []) → IsStart text line (get_or (starts ++ place ∷ []) line 0)
each_push text starts place each last line inside =
    let room : length (starts ++ place ∷ []) ≡ length starts + 1 = length-append starts (place ∷ []) in
    let near : line ≤ length starts = omega (arith, room, inside) in
    elim (eq-or-lt_of_le near) [
      | inl here ↦ subst (λ (p : ℕ). IsStart text line p) (sym (get_or_push starts place 0 line (sym here)))
          (subst (λ (n : ℕ). IsStart text n place) (sym here) last)
      | inr early ↦ subst (λ (p : ℕ). IsStart text line p) (sym (get_or_append_left starts (place ∷ []) 0 line early))
          (each line early)
    ]

-- behind a line end the next line starts
pub HasStarts-more : (text : List ℕ) (place : ℕ) (starts : List ℕ) → place < length text → get_or text place 0 ≡ 10
    → HasStarts text place starts → HasStarts text (place + 1) (starts ++ (place + 1) ∷ [])
HasStarts-more text place starts inside is so_far =
    let more : line_index text (place + 1) ≡ line_index text place + 1 = line_index-more text place inside is in
    let back : place + 1 - 1 ≡ place = omega arith in
    let begun : IsStart text (length starts) (place + 1) = record {
      within = omega arith;
      here = more ∙ sym so_far.count;
      first = λ _. ap (λ (p : ℕ). get_or text p 0) back ∙ is;
    } in
    record {
      count = length-append starts ((place + 1) ∷ []) ∙ ap (λ (n : ℕ). n + 1) (so_far.count ∙ sym more);
      each = each_push text starts (place + 1) so_far.each begun;
    }

-- a line of the table starts up to a place exactly where the place is in it or behind it
starts_by : (text starts : List ℕ) (pos line : ℕ) → IsTable text starts → line < length starts
    → get_or starts line 0 ≤ pos → line ≤ line_index text pos
starts_by text starts pos line table inside order =
    omega (arith, line_index-mono text (get_or starts line 0) pos order, (table.each line inside).here)

has_started : (text starts : List ℕ) (pos line : ℕ) → IsTable text starts → line < length starts
    → line ≤ line_index text pos → get_or starts line 0 ≤ pos
has_started text starts pos line table inside order =
    let least : get_or starts line 0 < pos + 1 =
    lt_of_not-le (λ late. let early : line_index text pos < line =
    before_start text line (get_or starts line 0) pos (table.each line inside) (omega arith) in
    absurd (omega (arith, early, order))) in
    omega arith

-- the table rises
pub rises : (text starts : List ℕ) → IsTable text starts → IsNonDecreasingBy (λ x. x) starts
rises text starts table =
    IsNonDecreasingBy-from_default (λ x. x) starts 0
    (λ i j order inside. has_started text starts (get_or starts j 0) i table (omega arith)
    (omega (arith, (table.each j inside).here)))

-- the number of lines that start up to a place is one more than its line
pub lines_up_to : (text starts : List ℕ) (pos count : ℕ) → IsTable text starts → pos ≤ length text
    → count ≤ length starts → IsPartitionPoint (λ y. leb y pos ≡ true) (λ y. leb y pos ≡ false) starts count
    → count ≡ line_index text pos + 1
lines_up_to text starts pos count table within bound point =
    let all : line_index text pos ≤ line_index text (length text) = line_index-mono text pos (length text) within in
    let most : count < line_index text pos + 2 = lt_of_not-le (λ (many : line_index text pos + 2 ≤ count).
    let passes : leb (get_or starts (line_index text pos + 1) 0) pos ≡ true =
    point.0 (line_index text pos + 1) 0 (omega arith) (omega arith) in
    let early : line_index text pos + 1 ≤ line_index text pos =
    starts_by text starts pos (line_index text pos + 1) table (omega arith) (leb-true _ _ passes) in
    absurd (omega (arith, early))) in
    let least : line_index text pos < count = lt_of_not-le (λ (few : count ≤ line_index text pos).
    let here : count < length starts = omega (arith, table.count, all) in
    let fails : leb (get_or starts count 0) pos ≡ false = point.1 count 0 (omega arith) here in
    let late : pos < get_or starts count 0 = leb-false _ _ fails in
    let early : get_or starts count 0 ≤ pos = has_started text starts pos count table here few in
    absurd (omega (arith, late, early))) in
    omega (arith, most, least)

-- ---- where a line stops
-- right before the start of the next one
pub stops_before : (text : List ℕ) (line next : ℕ) → IsStart text (line + 1) next → IsStop text line (next - 1)
stops_before text line next start =
    let some : 0 < next = lt_of_not-le (λ (none : next ≤ 0). let e : next ≡ 0 = omega arith in
    let first : line_index text 0 ≡ line + 1 = subst (λ (p : ℕ). line_index text p ≡ line + 1) e start.here in
    absurd (omega (arith, first))) in
    let more : line_index text next ≡ line_index text (next - 1) + 1 =
    behind_end text next some start.within (start.first some) in
    record {
      within = omega (arith, start.within);
      here = omega (arith, more, start.here);
      last = λ _. start.first some;
    }

-- the last line stops with the text
pub stops_with_text : (text starts : List ℕ) (line : ℕ) → IsTable text starts → line ≤ last_line text
    → length starts ≤ line + 1
    → IsStop text line (length text)
stops_with_text text starts line table order none = record {
  within = omega arith;
  here = omega (arith, table.count, order, none);
  last = λ (inside : length text < length text). absurd (omega (arith, inside));
}

-- no place of a line stands before its start
pub starts_first : (text : List ℕ) (line start pos : ℕ) → IsStart text line start → line_index text pos ≡ line
    → start ≤ pos
starts_first text line start pos starts here =
    let least : start < pos + 1 = lt_of_not-le (λ (late : pos + 1 ≤ start).
    let early : line_index text pos < line = before_start text line start pos starts (omega arith) in
    absurd (omega (arith, early, here))) in
    omega arith

-- and none behind the place where it stops
pub stops_last : (text : List ℕ) (line stop pos : ℕ) → IsStop text line stop → pos ≤ length text
    → line_index text pos ≡ line
    → pos ≤ stop
stops_last text line stop pos stops within here =
    let most : pos < stop + 1 = lt_of_not-le (λ (late : stop + 1 ≤ pos).
    let more : line_index text (stop + 1) ≡ line_index text stop + 1 =
    line_index-more text stop (omega arith) (stops.last (omega arith)) in
    let order : line_index text (stop + 1) ≤ line_index text pos = line_index-mono text (stop + 1) pos late in
    absurd (omega (arith, more, order, here, stops.here))) in
    omega arith

-- ---- where a text may be cut
-- the start of a line is between characters
pub start_boundary : (text : List ℕ) (line start : ℕ) → IsUtf8 text → IsStart text line start
    → IsCharBoundary text start
start_boundary text line start utf8 starts =
    elim (eq-zero-or-pos start) [
      | inl none ↦ subst (IsCharBoundary text) (sym none) (IsCharBoundary-start text utf8)
      | inr some ↦ let back : start - 1 + 1 ≡ start = omega arith in
          subst (IsCharBoundary text) back
          (IsCharBoundary-after_ascii text (start - 1) utf8 (omega (arith, starts.within, some))
          (omega (arith, starts.first some)))
    ]

-- so is the place where it stops
stop_boundary : (text : List ℕ) (line stop : ℕ) → IsStop text line stop → IsCharBoundary text stop
stop_boundary text line stop stops =
    elim (eq-or-lt_of_le stops.within) [
      | inl whole ↦ subst (IsCharBoundary text) (sym whole) (IsCharBoundary-end text)
      | inr inside ↦ IsCharBoundary-before_ascii text stop inside (omega (arith, stops.last inside))
    ]

-- what the text of a line is cut by
pub record CutsLine (text : List ℕ) (start end : ℕ) : Type 0 where
  pub order : start ≤ end
  pub within : end ≤ length text
  pub boundary : IsCharBoundary text end

-- where it stops, or one byte earlier
cuts_return : (text : List ℕ) (line start stop : ℕ) (b : Bool)
    → (b ≡ true → (0 < stop) × (stop < length text) × (get_or text (stop - 1) 0 ≡ 13))
    → IsStart text line start → IsStop text line stop → CutsLine text start (if b then stop - 1 else stop)
cuts_return text line start stop false _ starts stops = record {
  order = starts_first text line start stop starts stops.here;
  within = stops.within;
  boundary = stop_boundary text line stop stops;
}
cuts_return text line start stop true tells starts stops =
    let told : (0 < stop) × (stop < length text) × (get_or text (stop - 1) 0 ≡ 13) = tells refl in
    let first : start ≤ stop = starts_first text line start stop starts stops.here in
    let apart : start < stop = lt_of_not-le (λ (late : stop ≤ start). let e : start ≡ stop = omega arith in
    let ends : get_or text (stop - 1) 0 ≡ 10 =
    subst (λ (p : ℕ). get_or text (p - 1) 0 ≡ 10) e (starts.first (omega (arith, told.0))) in
    absurd (omega (arith, ends, told.2))) in
    record {
      order = omega arith;
      within = omega (arith, told.1);
      boundary = IsCharBoundary-before_ascii text (stop - 1) (omega (arith, told.1)) (omega (arith, told.2));
    }

return_tells : (text : List ℕ) (stop : ℕ)
    → (nat_lt 0 stop && nat_lt stop (length text) && nat_eq (get_or text (stop - 1) 0) 13) ≡ true
    → (0 < stop) × (stop < length text) × (get_or text (stop - 1) 0 ≡ 13)
return_tells text stop holds = (grind (arith, nat_tests), grind (arith, nat_tests), grind (arith, nat_tests))

-- from its start to its end a line can be cut out
pub cuts_line : (text : List ℕ) (line start end : ℕ) → IsStart text line start → IsEnd text line end
    → CutsLine text start end
cuts_line text line start end starts ends =
    subst (CutsLine text start) (sym ends.value)
    (cuts_return text line start ends.stop _ (return_tells text ends.stop) starts ends.stops)

-- a text has no more characters than bytes
pub length-chars-le : (text : List ℕ) → IsUtf8 text → length (chars text) ≤ length text
length-chars-le text utf8 =
    subst (λ (bytes : List ℕ). length (chars text) ≤ length bytes) (encodes-chars text utf8)
    (length-le-encodes (chars text))

-- ---- what is read of the table
-- the same table of the same text
pub table_at : (text text' starts starts' : List ℕ) → IsTable text starts → text ≡ text' → starts' ≡ starts
    → IsTable text' starts'
table_at text text' starts starts' table same is =
    subst (λ (list : List ℕ). IsTable text' list) (sym is) (subst (λ (bytes : List ℕ). IsTable bytes starts) same table)

-- the number at this place
pub number_at : (list : List ℕ) (at : ℕ) (found : Bor ℕ) → IsItemAt list at (Some found)
    → (at < length list) × (found.now ≡ get_or list at 0)
number_at list at found lookup = (lookup.3.0, lookup.3.1 0)
