-- The end of a string literal is found.
use Rattle.std.proofs.Common.{◌≡◌, ℕ, zero, suc, ◌+◌, ◌≤◌, ◌<◌, Bool, true, false, ◌==◌, List, [], ◌∷◌, ◌++◌, length, take, drop, refl, sym, ◌∙◌, ap, subst, arith, eqb-true, eq-eqb, append_assoc, length-append, true≢false, take_at, drop_at, ◌⊎◌, inl, inr}
use Rattle.es_literal.specs.declared.string.StringEnd.{StringEnd}
use Rattle.es_literal.specs.declared.string.StringEnd.TheVariants.{Closes, InvalidEscape, Unclosed}
use Rattle.es_literal.specs.spelling.Units.{concat, units_end, units_rest}
use Rattle.es_literal.specs.spelling.Units as run
use Rattle.es_literal.specs.Strings.{is_plain, begins_feed, IsUnit, plain, single, two, four, braced, return, return_feed, AreUnits, is_quote, begins_quote, IsString, IsBad, IsCut, Begins, IsStringEnd, closes, invalid, unclosed, escape_size, string_unit, escape_stop, string_stop, body_end, string_end}
use Rattle.es_literal.proofs.spelling_lemmas.UnitLemmas.{Within, Units, units, passes_units, stops, rest_units, rest_stops, ap2}
use Rattle.es_literal.proofs.UnitLemmas.{unit_sized, unit_some, Front, unit_found}

-- where a loop ends
pub end_from : (q at first : ℕ) (s text : List ℕ) → string_unit q s ≡ 0
    → units_end (string_unit q) at 0 s ≡ units_end (string_unit q) first 0 text
    → units_rest (string_unit q) 0 s ≡ units_rest (string_unit q) 0 text → string_stop q at s ≡ body_end q first text
unfolding body_end
end_from q at first s text e p r =
    ap2 (string_stop q) (sym (stops (string_unit q) at s e) ∙ p) (sym (rest_stops (string_unit q) s e) ∙ r)

-- ---- units are those that their sizes find
same_front : (u v x y : List ℕ) → u ++ x ≡ v ++ y → length u ≡ length v → (u ≡ v) × (x ≡ y)
same_front u v x y e l = (
  sym (take_at u x (length u) refl) ∙ (ap (take (length u)) e ∙ take_at v y (length u) (sym l)),
  sym (drop_at u x (length u) refl) ∙ (ap (drop (length u)) e ∙ drop_at v y (length u) (sym l)),
)

front_unit : (q : ℕ) (u x : List ℕ) → string_unit q (u ++ x) ≡ length u → 0 < length u → IsUnit q u x
front_unit q u x e l =
    let f : Front q (u ++ x) (string_unit q (u ++ x)) = unit_found q (u ++ x) (omega arith) in
    let s : (f.unit ≡ u) × (f.after ≡ x) = same_front f.unit u f.after x (sym f.whole) (f.long ∙ e) in
    subst (λ (w : List ℕ). IsUnit q w x) s.0 (subst (λ (w : List ℕ). IsUnit q f.unit w) s.1 f.is)

units_are : (q : ℕ) (us : List (List ℕ)) (back : List ℕ) → run.AreUnits (string_unit q) us back → AreUnits q us back
units_are q [] back h = tt
units_are q (u ∷ us) back h = (front_unit q u (concat us ++ back) h.0 h.1, units_are q us back h.2)

units_sized : (q : ℕ) (us : List (List ℕ)) (back : List ℕ) → AreUnits q us back → run.AreUnits (string_unit q) us back
units_sized q [] back h = tt
units_sized q (u ∷ us) back h =
    (unit_sized q u (concat us ++ back) h.0, unit_some q u (concat us ++ back) h.0, units_sized q us back h.1)

body_at : (q at : ℕ) (us : List (List ℕ)) (back : List ℕ) → AreUnits q us back → string_unit q back ≡ 0
    → body_end q at (concat us ++ back) ≡ string_stop q (at + length (concat us)) back
unfolding body_end
body_at q at us back h e =
    let each : run.AreUnits (string_unit q) us back = units_sized q us back h in
    ap2 (string_stop q)
    (passes_units (string_unit q) at us back each ∙ stops (string_unit q) (at + length (concat us)) back e)
    (rest_units (string_unit q) us back each ∙ rest_stops (string_unit q) back e)

-- what stands past the byte behind a unit changes nothing
feed_same : (x : List ℕ) (c : ℕ) (t r : List ℕ) → begins_feed (x ++ c ∷ t) ≡ begins_feed (x ++ c ∷ r)
unfolding begins_feed
feed_same [] c t r = refl
feed_same (b ∷ x) c t r = refl

unit_same : (q : ℕ) (u x : List ℕ) (c : ℕ) (t r : List ℕ) → IsUnit q u (x ++ c ∷ t) → IsUnit q u (x ++ c ∷ r)
unit_same q u x c t r (plain b p e) = plain b p e
unit_same q u x c t r (single b p e) = single b p e
unit_same q u x c t r (two d e h i w) = two d e h i w
unit_same q u x c t r (four d e f g h i j k w) = four d e f g h i j k w
unit_same q u x c t r (braced d digits h l e) = braced d digits h l e
unit_same q u x c t r (return f e) = return (feed_same x c r t ∙ f) e
unit_same q u x c t r (return_feed e) = return_feed e

units_same : (q : ℕ) (us : List (List ℕ)) (c : ℕ) (t r : List ℕ) → AreUnits q us (c ∷ t) → AreUnits q us (c ∷ r)
units_same q [] c t r h = tt
units_same q (u ∷ us) c t r h = (unit_same q u (concat us) c t r h.0, units_same q us c t r h.1)

-- ---- quotes
quote_by : (q : ℕ) (u v : Bool) → (q == 34) ≡ u → (q == 39) ≡ v → is_quote q ≡ true → (q ≡ 34) ⊎ (q ≡ 39)
unfolding is_quote
quote_by q true v p r e = inl (eqb-true q 34 p)
quote_by q false true p r e = inr (eqb-true q 39 r)
quote_by q false false p r e = let g : false ≡ true = rw (p, r) at e in cc

record Quote (q : ℕ) : Type 0 where
  slash : (q == 92) ≡ false
  escape : (92 == q) ≡ false
  feed : (10 == q) ≡ false
  return : (13 == q) ≡ false

quote_of : (q : ℕ) → (q ≡ 34) ⊎ (q ≡ 39) → Quote q
quote_of q (inl e) = subst Quote (sym e) (record { slash = refl; escape = refl; feed = refl; return = refl })
quote_of q (inr e) = subst Quote (sym e) (record { slash = refl; escape = refl; feed = refl; return = refl })

quote_is : (q : ℕ) → is_quote q ≡ true → Quote q
quote_is q k = quote_of q (quote_by q (q == 34) (q == 39) refl refl k)

-- ---- a literal's end is found
quote_stops : (q : ℕ) (after : List ℕ) → Quote q → string_unit q (q ∷ after) ≡ 0
unfolding string_unit is_plain
quote_stops q after k = rw (k.slash, eq-eqb q q refl) refl

quote_closes : (q at : ℕ) (after : List ℕ) → string_stop q at (q ∷ after) ≡ Closes (at + 1)
unfolding string_stop
quote_closes q at after = rw (eq-eqb q q refl) refl

string_closes : (start q : ℕ) (us : List (List ℕ)) (after : List ℕ) → is_quote q ≡ true → AreUnits q us (q ∷ [])
    → string_end start ((q ∷ (concat us ++ q ∷ [])) ++ after) ≡ Closes (start + length (q ∷ (concat us ++ q ∷ [])))
unfolding string_end
string_closes start q us after k h =
    ap (body_end q (start + 1)) (append_assoc (concat us) (q ∷ []) after)
    ∙ (body_at q (start + 1) us (q ∷ after) (units_same q us q [] after h) (quote_stops q after (quote_is q k))
    ∙ (quote_closes q (start + 1 + length (concat us)) after
    ∙ ap Closes (let e : start + 1 + length (concat us) + 1 ≡ start + length (q ∷ (concat us ++ q ∷ [])) =
    omega (arith, length-append (concat us) (q ∷ [])) in e)))

pub closes_found : (start : ℕ) (s after : List ℕ) → IsString s
    → string_end start (s ++ after) ≡ Closes (start + length s)
closes_found start s after i =
    subst (λ (t : List ℕ). string_end start (t ++ after) ≡ Closes (start + length t)) (sym i.whole)
    (string_closes start i.quote i.units after i.quotes i.each)

string_stops : (start q : ℕ) (us : List (List ℕ)) (back : List ℕ) → AreUnits q us back → string_unit q back ≡ 0
    → string_end start (q ∷ (concat us ++ back)) ≡ string_stop q (start + 1 + length (concat us)) back
unfolding string_end
string_stops start q us back h e = body_at q (start + 1) us back h e

-- a bad escape
bad_by : (q : ℕ) (back : List ℕ) (n : ℕ) → string_unit q back ≡ n → IsBad q back → n ≡ 0
bad_by q back zero e bad = refl
bad_by q back (suc n) e bad =
    let f : Front q back (string_unit q back) = unit_found q back (omega arith) in
    absurd (bad.none f.unit f.after f.is f.whole)

bad_stop : (q at n : ℕ) (more : List ℕ) → Quote q → string_stop q at (92 ∷ n ∷ more) ≡ InvalidEscape at
unfolding string_stop escape_stop
bad_stop q at n more k = rw k.escape refl

pub invalid_found : (start : ℕ) (text : List ℕ) → (b : Begins IsBad text)
    → string_end start text ≡ InvalidEscape (start + 1 + length (concat b.units))
invalid_found start text b =
    ap (string_end start) b.whole
    ∙ (string_stops start b.quote b.units b.back b.each (bad_by b.quote b.back (string_unit b.quote b.back) refl b.ends)
    ∙ (ap (string_stop b.quote (start + 1 + length (concat b.units))) b.ends.whole
    ∙ bad_stop b.quote (start + 1 + length (concat b.units)) b.ends.next b.ends.more (quote_is b.quote b.quotes)))

-- an unfinished literal
record Cut (q at : ℕ) (back : List ℕ) : Type 0 where
  size : string_unit q back ≡ 0
  stop : string_stop q at back ≡ Unclosed

byte_cut : (q at b : ℕ) (rest : List ℕ) → Quote q → (b ≡ 10) ⊎ ((b ≡ 13) ⊎ ((b ≡ 92) × (rest ≡ [])))
    → Cut q at (b ∷ rest)
unfolding string_unit string_stop is_plain escape_size escape_stop
byte_cut q at b rest k (inl e) =
    subst (λ (c : ℕ). Cut q at (c ∷ rest)) (sym e) (record { size = rw k.feed refl; stop = rw k.feed refl })
byte_cut q at b rest k (inr (inl e)) =
    subst (λ (c : ℕ). Cut q at (c ∷ rest)) (sym e) (record { size = rw k.return refl; stop = rw k.return refl })
byte_cut q at b rest k (inr (inr p)) =
    subst (λ (c : ℕ). Cut q at (c ∷ rest)) (sym p.0)
    (subst (λ (t : List ℕ). Cut q at (92 ∷ t)) (sym p.1) (record { size = refl; stop = rw k.escape refl }))

is_cut : (q at : ℕ) (back : List ℕ) → Quote q → IsCut back → Cut q at back
unfolding string_unit string_stop
is_cut q at [] k c = record { size = refl; stop = refl }
is_cut q at (b ∷ rest) k c = byte_cut q at b rest k c

pub unclosed_found : (start : ℕ) (text : List ℕ) → Begins (λ quote back. IsCut back) text
    → string_end start text ≡ Unclosed
unclosed_found start text b =
    let c : Cut b.quote (start + 1 + length (concat b.units)) b.back =
    is_cut b.quote (start + 1 + length (concat b.units)) b.back (quote_is b.quote b.quotes) b.ends in
    ap (string_end start) b.whole ∙ (string_stops start b.quote b.units b.back b.each c.size ∙ c.stop)

-- what the relation says is what is found, and so one thing
pub end_is : (start : ℕ) (text : List ℕ) (end : StringEnd) → IsStringEnd start text end → end ≡ string_end start text
end_is start text end (closes s after w i e) = e ∙ sym (ap (string_end start) w ∙ closes_found start s after i)
end_is start text end (invalid b e) = e ∙ sym (invalid_found start text b)
end_is start text end (unclosed b e) = e ∙ sym (unclosed_found start text b)

-- ---- and what is found, the relation says
close_end : (start q : ℕ) (us : List (List ℕ)) (b : ℕ) (rest : List ℕ) → is_quote q ≡ true
    → AreUnits q us (b ∷ rest) → b ≡ q
    → IsStringEnd start (q ∷ (concat us ++ b ∷ rest)) (Closes (start + 1 + length (concat us) + 1))
close_end start q us b rest k h e =
    let each : AreUnits q us (q ∷ []) =
    units_same q us q rest [] (subst (λ (c : ℕ). AreUnits q us (c ∷ rest)) e h) in
    closes (q ∷ (concat us ++ q ∷ [])) rest
    (ap (λ c. q ∷ (concat us ++ c ∷ rest)) e ∙ ap (λ t. q ∷ t) (sym (append_assoc (concat us) (q ∷ []) rest)))
    (record { quote = q; units = us; quotes = k; each = each; whole = refl })
    (ap Closes (let s : start + 1 + length (concat us) + 1 ≡ start + length (q ∷ (concat us ++ q ∷ [])) =
    omega (arith, length-append (concat us) (q ∷ [])) in s))

no_unit : (q : ℕ) (back u after : List ℕ) → string_unit q back ≡ 0 → IsUnit q u after → ¬ (back ≡ u ++ after)
no_unit q back u after e i w =
    let size : string_unit q (u ++ after) ≡ length u = unit_sized q u after i in
    let some : 0 < length u = unit_some q u after i in
    let same : string_unit q back ≡ string_unit q (u ++ after) = ap (string_unit q) w in
    omega arith

escape_end : (start q : ℕ) (us : List (List ℕ)) (b : ℕ) (rest : List ℕ) → is_quote q ≡ true
    → AreUnits q us (b ∷ rest) → string_unit q (b ∷ rest) ≡ 0 → b ≡ 92
    → IsStringEnd start (q ∷ (concat us ++ b ∷ rest)) (escape_stop (start + 1 + length (concat us)) rest)
unfolding escape_stop
escape_end start q us b [] k h e s = unclosed (record {
  quote = q;
  units = us;
  back = b ∷ [];
  quotes = k;
  each = h;
  whole = refl;
  ends = inr (inr (s, refl));
}) refl
escape_end start q us b (n ∷ more) k h e s = invalid (record {
  quote = q;
  units = us;
  back = b ∷ n ∷ more;
  quotes = k;
  each = h;
  whole = refl;
  ends = record {
    next = n;
    more = more;
    whole = ap (λ c. c ∷ n ∷ more) s;
    none = λ u after i. no_unit q (b ∷ n ∷ more) u after e i;
  };
}) refl

plain_one : (q b : ℕ) (rest : List ℕ) → (b == q) ≡ false → (b == 92) ≡ false → (b == 10) ≡ false → (b == 13) ≡ false
    → string_unit q (b ∷ rest) ≡ 1
unfolding string_unit is_plain
plain_one q b rest p r s t = rw (r, p, s, t) refl

line_by : (q b : ℕ) (rest : List ℕ) (w x : Bool) → (b == q) ≡ false → (b == 92) ≡ false → (b == 10) ≡ w
    → (b == 13) ≡ x → string_unit q (b ∷ rest) ≡ 0 → (b ≡ 10) ⊎ ((b ≡ 13) ⊎ ((b ≡ 92) × (rest ≡ [])))
unfolding string_unit is_plain
line_by q b rest true x p r s t e = inl (eqb-true b 10 s)
line_by q b rest false true p r s t e = inr (inl (eqb-true b 13 t))
line_by q b rest false false p r s t e =
    let one : string_unit q (b ∷ rest) ≡ 1 = plain_one q b rest p r s t in absurd (omega arith)

stop_end : (start q : ℕ) (us : List (List ℕ)) (b : ℕ) (rest : List ℕ) (u v : Bool) → is_quote q ≡ true
    → (b == q) ≡ u → (b == 92) ≡ v → AreUnits q us (b ∷ rest) → string_unit q (b ∷ rest) ≡ 0
    → IsStringEnd start (q ∷ (concat us ++ b ∷ rest)) (string_stop q (start + 1 + length (concat us)) (b ∷ rest))
unfolding string_stop
stop_end start q us b rest true v k p r h e = rw p (close_end start q us b rest k h (eqb-true b q p))
stop_end start q us b rest false true k p r h e =
    rw (p, r) (escape_end start q us b rest k h e (eqb-true b 92 r))
stop_end start q us b rest false false k p r h e = rw (p, r) (unclosed (record {
  quote = q;
  units = us;
  back = b ∷ rest;
  quotes = k;
  each = h;
  whole = refl;
  ends = line_by q b rest (b == 10) (b == 13) p r refl refl e;
}) refl)

rest_end : (start q : ℕ) (us : List (List ℕ)) (back : List ℕ) → is_quote q ≡ true → AreUnits q us back
    → string_unit q back ≡ 0
    → IsStringEnd start (q ∷ (concat us ++ back)) (string_stop q (start + 1 + length (concat us)) back)
unfolding string_stop
rest_end start q us [] k h e =
    unclosed (record { quote = q; units = us; back = []; quotes = k; each = h; whole = refl; ends = tt }) refl
rest_end start q us (b ∷ rest) k h e = stop_end start q us b rest (b == q) (b == 92) k refl refl h e

end_by : (start q : ℕ) (text : List ℕ) → is_quote q ≡ true → Units (string_unit q) (start + 1) text
    → IsStringEnd start (q ∷ text) (string_end start (q ∷ text))
unfolding string_end body_end
end_by start q text k r =
    let same : string_stop q (units_end (string_unit q) (start + 1) 0 text) (units_rest (string_unit q) 0 text)
    ≡ string_stop q (start + 1 + length (concat r.units)) r.back = ap2 (string_stop q) r.end r.rest in
    subst (IsStringEnd start (q ∷ text)) (sym same)
    (subst (λ (t : List ℕ). IsStringEnd start (q ∷ t) (string_stop q (start + 1 + length (concat r.units)) r.back))
    (sym r.whole) (rest_end start q r.units r.back k (units_are q r.units r.back r.each) r.ends))

within_by : (q : ℕ) (text : List ℕ) (n : ℕ) → string_unit q text ≡ n → string_unit q text ≤ length text
within_by q text zero e = omega arith
within_by q text (suc n) e =
    let f : Front q text (string_unit q text) = unit_found q text (omega arith) in
    let size : length text ≡ length (f.unit ++ f.after) = ap length f.whole in
    omega (arith, f.long, length-append f.unit f.after)

unit_within : (q : ℕ) → Within (string_unit q)
unit_within q text = within_by q text (string_unit q text) refl

pub string_finds : (start : ℕ) (text : List ℕ) → begins_quote text ≡ true
    → IsStringEnd start text (string_end start text)
unfolding begins_quote
string_finds start [] k = absurd (true≢false (sym k))
string_finds start (q ∷ text) k = end_by start q text k (units (string_unit q) (unit_within q) (start + 1) text)

-- one end or fault of a text
pub one_end : (start : ℕ) (text : List ℕ) (c d : StringEnd) → IsStringEnd start text c → IsStringEnd start text d
    → c ≡ d
one_end start text c d i j = end_is start text c i ∙ sym (end_is start text d j)
