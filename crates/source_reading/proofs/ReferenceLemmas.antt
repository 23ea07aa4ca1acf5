-- The sites of reference comments cut their values.
use Rattle.std.proofs.Common.{◌≡◌, ◌∙◌, sym, ap, subst, refl, ℕ, suc, ◌+◌, ◌-◌, ◌<◌, ◌≤◌, Bool, true, false, List, [], ◌∷◌, ◌++◌, length, get_or, take, drop, slice_get, slice_range, Some, None, ◌⊎◌, inl, inr, nat_eq, arith, append_assoc, add-one, drop-cons, take-append-drop, length-append, length-take, length-drop}
use Rattle.std.specs.Prelude.{All, Option, codes, nat_lt, option_to_list, ◌==◌, if◌then◌else◌}
use Rattle.std.specs.List.{starts_with, prefix_len, flat_map, list_any, position}
use Rattle.std.specs.Option.{option_and_then, option_map}
use Rattle.std.proofs.lemmas.Option.{same_Some}
use Rattle.std.proofs.lemmas.Bool.{eqb-true}
use Rattle.std.proofs.lemmas.List.{drop-drop, drop-take, take-take}
use Rattle.std.proofs.lemmas.List.Concat.{flat_map-cons}
use Rattle.std.proofs.lemmas.List.Quantifiers.{position-Some}
use Rattle.std.proofs.Math.Seq.{take-append_seam}
use Rattle.std.proofs.lemmas.List.Elements.{All-append, All-nil, All-cons}
use Rattle.es_token.specs.declared.token.Token.{Token}
use Rattle.es_token.specs.declared.token.Comment.{Comment}
use Rattle.es_token.specs.declared.token.CommentKind.{CommentKind}
use Rattle.es_token.specs.declared.token.CommentKind.TheVariants.{Line, Block}
use Rattle.es_lexer.specs.Pieces.{comment_spelling}
use Rattle.es_lexer.specs.Reads.{Reads}
use Rattle.es_lexer.proofs.Theorems.{reads_comment, reads_comment_within}
use Rattle.es_site.specs.declared.site.Site.{Site}
use Rattle.es_site.specs.declared.site.DependencyKind.{DependencyKind}
use Rattle.es_site.specs.declared.site.DependencyKind.TheVariants.{ReferencePath, ReferenceTypes}
use Rattle.media_type.specs.declared.media_type.MediaType.{MediaType}
use Rattle.media_type.specs.MediaType.{is_typed}
use Rattle.es_references.specs.References.{behind, behind_blanks, behind_gap, behind_opening, named, Named, behind_equals, closed_at, closed_by, quoted, Quoted, Reference, ended, reference_from, reference_named, reference_in, site_of, reference_of, is_before, first_token, sites_before, references_of, has_end, is_blank}
use Rattle.source_reading.specs.Read.{references_in}
use Rattle.source_reading.specs.Cuts.{CutsReference, Cuts}

-- ---- what stands behind a front is an end of the text

abbrev IsEnd : List ℕ → List ℕ → Type 0
IsEnd text part = (n : ℕ) × (part ≡ drop n text)

end_of_end : (text part rest : List ℕ) → IsEnd text part → IsEnd part rest → IsEnd text rest
end_of_end text part rest one other =
    (one.0 + other.0, other.1 ∙ ap (drop other.0) one.1 ∙ drop-drop other.0 one.0 text)

-- an answer is an end
abbrev EndOf : List ℕ → Option (List ℕ) → Type 0
EndOf text o = (rest : List ℕ) → o ≡ Some rest → IsEnd text rest

-- the answer of a step from an answer is one too
then_end : (text : List ℕ) (o : Option (List ℕ)) (f : List ℕ → Option (List ℕ)) → EndOf text o
    → ((part : List ℕ) → EndOf part (f part)) → EndOf text (option_and_then f o)
then_end text None f first next rest is = cc
then_end text (Some part) f first next rest is = end_of_end text part rest (first part refl) (next part rest is)

if_end : (text part : List ℕ) (b : Bool) → IsEnd text part → EndOf text (if b then Some part else None)
if_end text part true end rest is = subst (IsEnd text) (same_Some part rest is) end
if_end text part false end rest is = cc

behind-end : (front text : List ℕ) → EndOf text (behind front text)
behind-end front text = if_end text (drop (length front) text) (starts_with nat_eq text front) (length front, refl)

blanks-end : (text : List ℕ) → IsEnd text (behind_blanks text)
blanks-end text = (prefix_len is_blank text, refl)

some_end : (text part : List ℕ) → IsEnd text part → EndOf text (Some part)
some_end text part end rest is = subst (IsEnd text) (same_Some part rest is) end

-- ---- the parts of a reference

-- its value stands between equal quotes, at an end of the text
record HasParts (text : List ℕ) (r : Reference) : Type 0 where
  end : IsEnd text r.from
  quote : ℕ
  is_quote : (quote ≡ 34) ⊎ (quote ≡ 39)
  parts : r.from ≡ quote ∷ (r.value ++ quote ∷ r.behind)

without-is : (other : ℕ) (value rest : List ℕ) (q : Quoted) (b : Bool)
    → (if b then None else Some (value, rest)) ≡ Some q → (value, rest) ≡ q
without-is other value rest q true is = cc
without-is other value rest q false is = same_Some (value, rest) q is

closed-parts : (quote other : ℕ) (text : List ℕ) (o : Option ℕ) (q : Quoted) → position (λ b. b == quote) text ≡ o
    → closed_at other text o ≡ Some q → text ≡ q.0 ++ quote ∷ q.1
closed-parts quote other text None q found is = cc
closed-parts quote other text (Some at) q found is =
    let place = position-Some (λ b. b == quote) text at 0 found in
    let here : get_or text at 0 ≡ quote = eqb-true (get_or text at 0) quote place.1 in
    let parts : (take at text, drop (at + 1) text) ≡ q
    = without-is other (take at text) (drop (at + 1) text) q (list_any (λ b. b == other) (take at text)) is in
    let whole : text ≡ take at text ++ quote ∷ drop (at + 1) text =
    sym (take-append-drop at text)
    ∙ ap (λ (l : List ℕ). take at text ++ l) (drop-cons text at 0 place.0
    ∙ ap (λ (b : ℕ). b ∷ drop (suc at) text) here ∙ ap (λ (k : ℕ). quote ∷ drop k text) (sym (add-one at))) in
    whole ∙ ap (λ (p : Quoted). p.0 ++ quote ∷ p.1) parts

record HasQuotes (text : List ℕ) (q : Quoted) : Type 0 where
  quote : ℕ
  is_quote : (quote ≡ 34) ⊎ (quote ≡ 39)
  parts : text ≡ quote ∷ (q.0 ++ quote ∷ q.1)

quoted-parts : (text : List ℕ) (q : Quoted) → quoted text ≡ Some q → HasQuotes text q
quoted-parts [] q is = cc
quoted-parts (b ∷ rest) q is = by (b == 34) (b == 39) refl refl is
  where
    by : (double single : Bool) → (b == 34) ≡ double → (b == 39) ≡ single
        → (if double then closed_by 34 39 rest else (if single then closed_by 39 34 rest else None)) ≡ Some q
        → HasQuotes (b ∷ rest) q
    by true single is_double is_single closes = record {
      quote = 34;
      is_quote = inl refl;
      parts = ap (λ (x : ℕ). x ∷ rest) (eqb-true b 34 is_double)
          ∙ ap (λ (l : List ℕ). 34 ∷ l) (closed-parts 34 39 rest (position (λ x. x == 34) rest) q refl closes);
    }
    by false true is_double is_single closes = record {
      quote = 39;
      is_quote = inr refl;
      parts = ap (λ (x : ℕ). x ∷ rest) (eqb-true b 39 is_single)
          ∙ ap (λ (l : List ℕ). 39 ∷ l) (closed-parts 39 34 rest (position (λ x. x == 39) rest) q refl closes);
    }
    by false false is_double is_single closes = cc

ended-parts : (kind : DependencyKind) (from : List ℕ) (q : Quoted) (r : Reference) (b : Bool) → HasQuotes from q
    → (if b then Some (record { kind = kind; value = q.0; from = from; behind = q.1 }) else None) ≡ Some r
    → HasParts from r
ended-parts kind from q r true has is =
    let same = same_Some (record { kind = kind; value = q.0; from = from; behind = q.1 }) r is in
    subst (HasParts from) same (record {
      end = (0, refl);
      quote = has.quote;
      is_quote = has.is_quote;
      parts = has.parts;
    })
ended-parts kind from q r false has is = cc

from-parts : (kind : DependencyKind) (from : List ℕ) (o : Option Quoted) (r : Reference) → quoted from ≡ o
    → option_and_then (ended kind from) o ≡ Some r → HasParts from r
from-parts kind from None r found is = cc
from-parts kind from (Some q) r found is = ended-parts kind from q r (has_end q.1) (quoted-parts from q found) is

-- the same at an end of the text
further : (text part : List ℕ) (r : Reference) → IsEnd text part → HasParts part r → HasParts text r
further text part r end has = record {
  end = end_of_end text part r.from end has.end;
  quote = has.quote;
  is_quote = has.is_quote;
  parts = has.parts;
}

equals-end : (text : List ℕ) → EndOf text (behind_equals text)
equals-end text = by (behind (codes "=") (behind_blanks text)) (behind-end (codes "=") (behind_blanks text))
  where
    by : (o : Option (List ℕ)) → EndOf (behind_blanks text) o → EndOf text (option_map behind_blanks o)
    by None end rest is = cc
    by (Some part) end rest is =
        let here = end_of_end text (behind_blanks text) part (blanks-end text) (end part refl) in
        some_end text (behind_blanks part) (end_of_end text part (behind_blanks part) here (blanks-end part)) rest is

gap-end : (text : List ℕ) → EndOf text (behind_gap text)
gap-end text = if_end text (behind_blanks text) (nat_lt 0 (prefix_len is_blank text)) (blanks-end text)

opening-end : (text : List ℕ) → EndOf text (behind_opening text)
opening-end text =
    then_end text (behind (codes "/") text)
    (λ inner. option_and_then behind_gap (behind (codes "<reference") (behind_blanks inner)))
    (behind-end (codes "/") text)
    (λ inner. then_end inner (behind (codes "<reference") (behind_blanks inner)) behind_gap
    (λ rest is. end_of_end inner (behind_blanks inner) rest (blanks-end inner)
    (behind-end (codes "<reference") (behind_blanks inner) rest is))
    (λ part. gap-end part))

named-end : (text : List ℕ) (n : Named) → named text ≡ Some n → IsEnd text n.1
named-end text n is = by (starts_with nat_eq text (codes "path")) (starts_with nat_eq text (codes "types")) is
  where
    by : (path types : Bool) → (if path then Some (ReferencePath, drop 4 text)
        else (if types then Some (ReferenceTypes, drop 5 text) else None)) ≡ Some n → IsEnd text n.1
    by true types same = subst (λ (m : Named). IsEnd text m.1) (same_Some (ReferencePath, drop 4 text) n same) (4, refl)
    by false true same =
        subst (λ (m : Named). IsEnd text m.1) (same_Some (ReferenceTypes, drop 5 text) n same) (5, refl)
    by false false same = cc

named-parts : (n : Named) (o : Option (List ℕ)) (r : Reference) → EndOf n.1 o
    → option_and_then (reference_from n.0) o ≡ Some r → HasParts n.1 r
named-parts n None r end is = cc
named-parts n (Some from) r end is =
    further n.1 from r (end from refl) (from-parts n.0 from (quoted from) r refl is)

word-parts : (text : List ℕ) (o : Option Named) (r : Reference) → ((n : Named) → o ≡ Some n → IsEnd text n.1)
    → option_and_then reference_named o ≡ Some r → HasParts text r
word-parts text None r end is = cc
word-parts text (Some n) r end is =
    further text n.1 r (end n refl) (named-parts n (behind_equals n.1) r (equals-end n.1) is)

opening-named : (text : List ℕ) (o : Option (List ℕ)) → EndOf text o → (n : Named)
    → option_and_then named o ≡ Some n → IsEnd text n.1
opening-named text None end n is = cc
opening-named text (Some part) end n is = end_of_end text part n.1 (end part refl) (named-end part n is)

reference-parts : (text : List ℕ) (r : Reference) → reference_in text ≡ Some r → HasParts text r
unfolding reference_in
reference-parts text r is =
    word-parts text (option_and_then named (behind_opening text)) r
    (opening-named text (behind_opening text) (opening-end text)) is

-- ---- what a comment's site cuts

-- a part of a slice
slice_part : (x : List ℕ) (start size skip count : ℕ) (whole : List ℕ) → take size (drop start x) ≡ whole
    → skip + count ≤ size → take count (drop (start + skip) x) ≡ take count (drop skip whole)
slice_part x start size skip count whole is fits =
    let ys : List ℕ = drop start x in
    let rest : ℕ = size - skip in
    let all : skip + rest ≡ size = omega arith in
    let here : drop skip whole ≡ take rest (drop skip ys) =
    ap (drop skip) (sym is ∙ ap (λ (n : ℕ). take n ys) (sym all)) ∙ drop-take skip rest ys in
    sym (ap (take count) here ∙ take-take count rest (drop skip ys) (omega arith)
    ∙ ap (take count) (drop-drop skip start x))

cut_value : (x : List ℕ) (start end : ℕ) (text : List ℕ) (r : Reference)
    → slice_range x start end ≡ 47 ∷ 47 ∷ text → start < end → end ≤ length x → HasParts text r
    → CutsReference x (site_of end r).range r.value
cut_value x start end text r cut some within has =
    let from : List ℕ = r.from in
    let n : ℕ = has.end.0 in
    let inner : List ℕ = has.quote ∷ (r.value ++ has.quote ∷ []) in
    let split : from ≡ inner ++ r.behind
    = has.parts ∙ ap (λ (l : List ℕ). has.quote ∷ l) (sym (append_assoc r.value (has.quote ∷ []) r.behind)) in
    let size : length inner + length r.behind ≡ length from
    = sym (length-append inner r.behind) ∙ ap length (sym split) in
    let long : length inner ≡ suc (length r.value + 1)
    = ap suc (length-append r.value (has.quote ∷ [])) in
    let left : length from ≡ length text - n = ap length has.end.1 ∙ length-drop n text in
    let slice : (end - start) ≡ suc (suc (length text))
    = omega (arith, length-take (end - start) (drop start x), length-drop start x, ap length cut) in
    let start_at : end - length from ≡ start + suc (suc n) = omega arith in
    let count_is : (end - length r.behind) - (end - length from) ≡ length inner = omega arith in
    let cuts : slice_range x (end - length from) (end - length r.behind) ≡ inner =
    ap (λ (k : ℕ). take k (drop (end - length from) x)) count_is
    ∙ ap (λ (k : ℕ). take (length inner) (drop k x)) start_at
    ∙ slice_part x start (end - start) (suc (suc n)) (length inner) (47 ∷ 47 ∷ text) cut (omega arith)
    ∙ ap (take (length inner)) (sym has.end.1 ∙ split) ∙ take-append_seam inner r.behind in
    record {
      quote = has.quote;
      is_quote = has.is_quote;
      order = omega arith;
      within = omega arith;
      cut = cuts;
    }

-- the site of each comment that refers
module _ (x : List ℕ) where
  abbrev P : Site → Type 0
  P site = Cuts x site.range site.value

  line_cuts : (start end : ℕ) (text : List ℕ) (o : Option Reference) → reference_in text ≡ o
      → slice_range x start end ≡ 47 ∷ 47 ∷ text → start < end → end ≤ length x
      → All P (option_to_list (option_map (site_of end) o))
  line_cuts start end text None found cut some within = All-nil P
  line_cuts start end text (Some r) found cut some within =
      All-cons P (site_of end r) []
      (inr (cut_value x start end text r cut some within (reference-parts text r found))) (All-nil P)

  kind_cuts : (kind : CommentKind) (start end : ℕ) (text : List ℕ)
      → slice_range x start end ≡ comment_spelling kind text → start < end → end ≤ length x
      → All P (option_to_list (reference_of kind end text))
  unfolding comment_spelling
  kind_cuts Line start end text cut some within =
      line_cuts start end text (reference_in text) refl cut some within
  kind_cuts Block start end text cut some within = All-nil P

  comment_cuts : (b : Bool) (c : Comment) → slice_range x c.range.start c.range.end ≡ comment_spelling c.kind c.text
      → c.range.start < c.range.end → c.range.end ≤ length x
      → All P (if b then option_to_list (reference_of c.kind c.range.end c.text) else [])
  comment_cuts true c cut some within = kind_cuts c.kind c.range.start c.range.end c.text cut some within
  comment_cuts false c cut some within = All-nil P

  -- what the reading of a text says of each comment
  abbrev IsCut : Comment → Type 0
  IsCut c = (slice_range x c.range.start c.range.end ≡ comment_spelling c.kind c.text)
      × (c.range.start < c.range.end) × (c.range.end ≤ length x)

  comments_cut : (first : Option Token) (cs : List Comment)
      → ((n : ℕ) (c : Comment) → slice_get cs n ≡ Some c → IsCut c) → All P (flat_map (sites_before first) cs)
  comments_cut first [] each = All-nil P
  comments_cut first (c ∷ cs) each =
      let here = each 0 c refl in
      subst (All P) (sym (flat_map-cons (sites_before first) c cs))
      (All-append P (sites_before first c) (flat_map (sites_before first) cs)
      (comment_cuts (is_before c first) c here.0 here.1 here.2)
      (comments_cut first cs (λ n d is. each (suc n) d is)))

  all_cut : (tokens : List Token) (comments : List Comment) → Reads x tokens comments
      → All P (references_of tokens comments)
  unfolding references_of
  all_cut tokens comments reads =
      comments_cut (first_token tokens) comments (λ n c is.
      let within = reads_comment_within x tokens comments n c reads is in
      (reads_comment x tokens comments n c reads is, within.0, within.1))

  typed_cut : (b : Bool) (tokens : List Token) (comments : List Comment) → Reads x tokens comments
      → All P (if b then references_of tokens comments else [])
  typed_cut true tokens comments reads = all_cut tokens comments reads
  typed_cut false tokens comments reads = All-nil P

-- each reference site cuts its value between quotes
pub references_cut : (media : MediaType) (x : List ℕ) (tokens : List Token) (comments : List Comment)
    (references : List Site) → Reads x tokens comments → references ≡ references_in media tokens comments
    → All (λ site. Cuts x site.range site.value) references
references_cut media x tokens comments references reads is =
    subst (All (λ site. Cuts x site.range site.value)) (sym is) (typed_cut x (is_typed media) tokens comments reads)
