-- The names of a path, joined and split again.
use Rattle.std.proofs.Common.{◌≡◌, ℕ, ◌+◌, ◌<◌, Bool, List, [], ◌∷◌, ◌++◌, take, length, get_or, refl, sym, ap, ◌∙◌, append_assoc, append-nil, Bor, codes, arith, ne_eqb, nat_eq}
use Rattle.std.specs.Bool.{if◌then◌else◌}
use Rattle.std.specs.List.{join_with_byte}
use Rattle.std.proofs.lemmas.Bool.{cond-false}
use Rattle.std.proofs.lemmas.List.{take_more, map-append, length-map, length-take-le}
use Rattle.lexical_path.specs.Paths.{texts, path_of}

-- one more name comes after a separator
pub join_push : (c : ℕ) (first : List ℕ) (names : List (List ℕ)) (name : List ℕ)
    → join_with_byte c ((first ∷ names) ++ name ∷ []) ≡ join_with_byte c (first ∷ names) ++ c ∷ name
join_push c first [] name = refl
join_push c first (second ∷ names) name =
    ap (λ rest. first ++ c ∷ rest) (join_push c second names name)
    ∙ sym (append_assoc first (c ∷ join_with_byte c (second ∷ names)) (c ∷ name))

-- the first name comes at once, and any other one after a slash
pub path_of_push : (absolute : Bool) (names : List (List ℕ)) (name : List ℕ)
    → path_of absolute (names ++ name ∷ [])
    ≡ (path_of absolute names ++ (if nat_eq (length names) 0 then [] else codes "/")) ++ name
path_of_push absolute [] name =
    let root : List ℕ = if absolute then codes "/" else [] in
    ap (λ front. front ++ name) (sym (append-nil (root ++ []) ∙ append-nil root))
path_of_push absolute (first ∷ names) name =
    let root : List ℕ = if absolute then codes "/" else [] in
    let joined = join_with_byte 47 (first ∷ names) in
    ap (λ rest. root ++ rest) (join_push 47 first names name) ∙ sym (append_assoc root joined (47 ∷ name))
    ∙ sym (append_assoc (root ++ joined) (47 ∷ []) name)
    ∙ ap (λ between. ((root ++ joined) ++ between) ++ name)
    (sym (cond-false _ _ _ (ne_eqb (length (first ∷ names)) 0 (λ e. omega arith))))

-- the same at a place in a list of texts
pub path_of_next : (absolute : Bool) (names : List (Bor (List ℕ))) (i : ℕ) (d : Bor (List ℕ)) → i < length names
    → path_of absolute (texts (take (i + 1) names))
    ≡ (path_of absolute (texts (take i names)) ++ (if nat_eq i 0 then [] else codes "/")) ++ (get_or names i d).now
path_of_next absolute names i d inside =
    ap (λ list. path_of absolute (texts list)) (take_more names i d inside)
    ∙ ap (path_of absolute) (map-append (λ text. text.now) (take i names) (get_or names i d ∷ []))
    ∙ path_of_push absolute (texts (take i names)) (get_or names i d).now
    ∙ ap (λ n. (path_of absolute (texts (take i names)) ++ (if nat_eq n 0 then [] else codes "/"))
    ++ (get_or names i d).now)
    (length-map (take i names) (λ text. text.now) ∙ length-take-le i names (omega arith))
