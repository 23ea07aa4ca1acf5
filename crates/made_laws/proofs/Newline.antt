-- A line end behind printed tokens adds none.
use Rattle.std.proofs.Common.{◌≡◌, ◌∙◌, refl, sym, ap, ap₂, ℕ, Bool, true, false, cond, ◌&&◌, List, [], ◌∷◌, ◌++◌, append_assoc, append-nil}
use Rattle.json.specs.Token.{Token, begin_object, end_object, begin_array, end_array, key, string, number, boolean, null, bad}
use Rattle.json.specs.Word.{ends_word, word}
use Rattle.json.specs.Lex.{Lexeme, token, comma, colon, string_token, lex, between, punctuate, fresh, tokens}
use Rattle.json.specs.Print.{escape, quoted, token_text, begins, ends, separator, print_from, print, IsPrintable, ArePrintable}
use Rattle.json.proofs.Printed.Strings.{content-escape, lex-escape}
use Rattle.json.proofs.Printed.Numbers.{lex-number, in_word-ended}
use Rattle.json.proofs.Printed.Tokens.{tokens-print}

abbrev lexed : Token → List Lexeme
lexed begin_object = token begin_object ∷ []
lexed end_object = token end_object ∷ []
lexed begin_array = token begin_array ∷ []
lexed end_array = token end_array ∷ []
lexed (key s) = token (string s) ∷ colon ∷ []
lexed (string s) = token (string s) ∷ []
lexed (number s) = token (number s) ∷ []
lexed (boolean b) = token (boolean b) ∷ []
lexed null = token null ∷ []
lexed bad = []

lexed_quoted : (s r : List ℕ) → lex between (quoted s ++ r) ≡ token (string s) ∷ lex between r
unfolding lex
lexed_quoted s r =
    ap (λ (l : List ℕ). lex between (34 ∷ l)) (append_assoc (escape s) (34 ∷ []) r)
    ∙ ap₂ (λ o l. token (string_token o) ∷ l) (content-escape s r) (lex-escape s r)

lexed_token : (t : Token) (r : List ℕ) → IsPrintable t → (ends t ≡ true → ends_word r ≡ true)
    → lex between (token_text t ++ r) ≡ lexed t ++ lex between r
unfolding lex word
lexed_token begin_object r h ended = refl
lexed_token end_object r h ended = refl
lexed_token begin_array r h ended = refl
lexed_token end_array r h ended = refl
lexed_token (key s) r h ended =
    ap (lex between) (append_assoc (quoted s) (58 ∷ []) r) ∙ lexed_quoted s (58 ∷ r)
lexed_token (string s) r h ended = lexed_quoted s r
lexed_token (number s) r h ended = lex-number s r h (ended refl)
lexed_token (boolean true) r h ended =
    ap₂ (λ b l. token (cond b (boolean true) bad) ∷ l) (ended refl) (in_word-ended r (ended refl))
lexed_token (boolean false) r h ended =
    ap₂ (λ b l. token (cond b (boolean false) bad) ∷ l) (ended refl) (in_word-ended r (ended refl))
lexed_token null r h ended =
    ap₂ (λ b l. token (cond b null bad) ∷ l) (ended refl) (in_word-ended r (ended refl))
lexed_token bad r h ended = absurd h

value_ends : (ts : List Token) (z : List ℕ) → ends_word z ≡ true → ends_word (print_from true ts ++ z) ≡ true
unfolding print_from
value_ends [] z h = h
value_ends (begin_object ∷ ts) z h = refl
value_ends (end_object ∷ ts) z h = refl
value_ends (begin_array ∷ ts) z h = refl
value_ends (end_array ∷ ts) z h = refl
value_ends (key s ∷ ts) z h = refl
value_ends (string s ∷ ts) z h = refl
value_ends (number s ∷ ts) z h = refl
value_ends (boolean b ∷ ts) z h = refl
value_ends (null ∷ ts) z h = refl
value_ends (bad ∷ ts) z h = refl

behind_value : (t : Token) (ts : List Token) (z : List ℕ) → ends_word z ≡ true → ends t ≡ true
    → ends_word (print_from (ends t) ts ++ z) ≡ true
behind_value t ts z h e = ap (λ (b : Bool). ends_word (print_from b ts ++ z)) e ∙ value_ends ts z h

behind_comma : (b : Bool) (x y : List ℕ) → lex between x ≡ lex between y
    → lex between (cond b (44 ∷ []) [] ++ x) ≡ lex between (cond b (44 ∷ []) [] ++ y)
unfolding lex
behind_comma true x y same = ap (λ (l : List Lexeme). comma ∷ l) same
behind_comma false x y same = same

behind_printed : (c : Bool) (ts : List Token) (z : List ℕ) → ends_word z ≡ true → lex between z ≡ [] → ArePrintable ts
    → lex between (print_from c ts ++ z) ≡ lex between (print_from c ts ++ [])
unfolding print_from ArePrintable lex
behind_printed c [] z ended none h = none
behind_printed c (t ∷ ts) z ended none h =
    let rest = print_from (ends t) ts in
    let before = separator c t in
    let shift = λ (y : List ℕ). append_assoc before (token_text t ++ rest) y
    ∙ ap (λ (x : List ℕ). before ++ x) (append_assoc (token_text t) rest y) in
    ap (lex between) (shift z)
    ∙ behind_comma (c && begins t) (token_text t ++ (rest ++ z)) (token_text t ++ (rest ++ []))
    (lexed_token t (rest ++ z) h.0 (behind_value t ts z ended)
    ∙ ap (λ (l : List Lexeme). lexed t ++ l) (behind_printed (ends t) ts z ended none h.1)
    ∙ sym (lexed_token t (rest ++ []) h.0 (behind_value t ts [] refl)))
    ∙ sym (ap (lex between) (shift []))

pub tokens_newline : (ts : List Token) → ArePrintable ts → tokens (print ts ++ 10 ∷ []) ≡ ts
unfolding lex
tokens_newline ts h =
    ap (punctuate fresh) (behind_printed false ts (10 ∷ []) refl refl h ∙ ap (lex between) (append-nil (print ts)))
    ∙ tokens-print ts h
