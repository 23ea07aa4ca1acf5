-- Records of names that stand one behind the other.
use Rattle.std.proofs.Common.{◌≡◌, ◌∙◌, refl, sym, ap, subst, ℕ, ◌+◌, ◌<◌, Bool, true, false, ◌&&◌, nat_le, List, [], ◌∷◌, ◌++◌, length, take, get_or, arith, length-append, append-nil}
use Rattle.std.proofs.lemmas.List.{take_more, append_assoc}
use Rattle.std.proofs.lemmas.Grind.{flat_map-append}
use Rattle.es_ast.specs.declared.ast.Program.{Program}
use Rattle.es_exports.specs.declared.analysis.ModuleExportsAndReExports.{ModuleExportsAndReExports}
use Rattle.es_exports.specs.Exports.{exports_of, reexports_of}
use Rattle.cjs_facts.specs.Exports.{AreExports}
use Rattle.graph_c.specs.declared.exports.SourceName.{SourceName}
use Rattle.graph_c.specs.declared.finding.Finding.{Finding}
use Rattle.graph_c.specs.declared.finding.Finding.TheVariants as finding
use Rattle.graph_c.specs.Exports.{ExportsOf, OfProgram, exports_in, reexports_in, names_in, ranges_from, joined, names_fit, TellsExports}
use Rattle.graph_c.specs.Told.{fault_of, place_of, status_of, after}

-- ---- what there is to tell

pub as_common_js : (common_js : Bool) (program : Program) (it : ModuleExportsAndReExports) → common_js ≡ true
    → AreExports program it.exports it.reexports → OfProgram common_js program (finding.Exports it)
as_common_js common_js program it is are =
    (it, subst (λ (b : Bool). ExportsOf b program it) (sym is) are, refl)

pub at_run_time : (common_js : Bool) (program : Program) (it : ModuleExportsAndReExports) → common_js ≡ false
    → it.exports ≡ exports_of program → it.reexports ≡ reexports_of program
    → OfProgram common_js program (finding.Exports it)
at_run_time common_js program it is exports reexports =
    (it, subst (λ (b : Bool). ExportsOf b program it) (sym is) (exports, reexports), refl)

-- ---- names, one behind the other

pub joined_append : (names others : List (List ℕ)) → joined (names ++ others) ≡ joined names ++ joined others
joined_append names others = flat_map-append (λ (name : List ℕ). name) names others

pub length_joined : (names others : List (List ℕ))
    → length (joined (names ++ others)) ≡ length (joined names) + length (joined others)
length_joined names others =
    ap length (joined_append names others) ∙ length-append (joined names) (joined others)

ranges_append : (at : ℕ) (names others : List (List ℕ))
    → ranges_from at (names ++ others) ≡ ranges_from at names ++ ranges_from (at + length (joined names)) others
ranges_append at [] others =
    let same : at ≡ at + length (joined []) = omega (arith) in
    ap (λ (n : ℕ). ranges_from n others) same
ranges_append at (name ∷ names) others =
    let next : (at + length name) + length (joined names) ≡ at + length (joined (name ∷ names))
    = omega (arith, length-append name (joined names)) in
    ap (λ (rest : List SourceName). record { start = at; end = at + length name } ∷ rest)
    (ranges_append (at + length name) names others
    ∙ ap (λ (n : ℕ). ranges_from (at + length name) names ++ ranges_from n others) next)

-- one name behind others
pub one_range : (old new : List SourceName) (at start end : ℕ) (name : List ℕ) → start ≡ at → end ≡ at + length name
    → new ≡ old ++ record { start = start; end = end } ∷ [] → new ≡ old ++ ranges_from at (name ∷ [])
one_range old new at start end name begins ends is =
    is ∙ ap (λ (n : ℕ). old ++ record { start = n; end = end } ∷ []) begins
    ∙ ap (λ (n : ℕ). old ++ record { start = at; end = n } ∷ []) ends

-- the names up to the next place
next_names : (names : List (List ℕ)) (i : ℕ) (name : List ℕ) → i < length names → name ≡ get_or names i name
    → take (i + 1) names ≡ take i names ++ name ∷ []
next_names names i name inside here =
    take_more names i name inside ∙ ap (λ (n : List ℕ). take i names ++ n ∷ []) (sym here)

pub ranges_more : (names : List (List ℕ)) (i : ℕ) (name : List ℕ) (old now new : List SourceName) (start at : ℕ)
    → i < length names → name ≡ get_or names i name → now ≡ old ++ ranges_from start (take i names)
    → at ≡ start + length (joined (take i names)) → new ≡ now ++ ranges_from at (name ∷ [])
    → new ≡ old ++ ranges_from start (take (i + 1) names)
ranges_more names i name old now new start at inside here are stands is =
    is ∙ ap (λ (l : List SourceName). l ++ ranges_from at (name ∷ [])) are
    ∙ append_assoc old (ranges_from start (take i names)) (ranges_from at (name ∷ []))
    ∙ ap (λ (n : ℕ). old ++ (ranges_from start (take i names) ++ ranges_from n (name ∷ []))) stands
    ∙ ap (λ (l : List SourceName). old ++ l) (sym (ranges_append start (take i names) (name ∷ [])))
    ∙ ap (λ (l : List (List ℕ)). old ++ ranges_from start l) (sym (next_names names i name inside here))

pub texts_more : (names : List (List ℕ)) (i : ℕ) (name : List ℕ) (old now new : List ℕ)
    → i < length names → name ≡ get_or names i name → now ≡ old ++ joined (take i names) → new ≡ now ++ name
    → new ≡ old ++ joined (take (i + 1) names)
texts_more names i name old now new inside here are is =
    is ∙ ap (λ (l : List ℕ). l ++ name) are
    ∙ append_assoc old (joined (take i names)) name
    ∙ ap (λ (l : List ℕ). old ++ (joined (take i names) ++ l)) (sym (append-nil name))
    ∙ ap (λ (l : List ℕ). old ++ l) (sym (joined_append (take i names) (name ∷ [])))
    ∙ ap (λ (l : List (List ℕ)). old ++ joined l) (sym (next_names names i name inside here))

pub length_more : (names : List (List ℕ)) (i : ℕ) (name : List ℕ) (n old new : ℕ)
    → i < length names → name ≡ get_or names i name → n ≡ old + length (joined (take i names))
    → new ≡ n + length name → new ≡ old + length (joined (take (i + 1) names))
length_more names i name n old new inside here count grown =
    let whole : length (joined (take (i + 1) names)) ≡ length (joined (take i names)) + length name
    = ap (λ (l : List (List ℕ)). length (joined l)) (next_names names i name inside here)
    ∙ length_joined (take i names) (name ∷ [])
    ∙ ap (λ (l : List ℕ). length (joined (take i names)) + length l) (append-nil name) in
    omega (arith, whole, grown, count)

-- two lists of names, from the front
pub laid_ranges : (names others : List (List ℕ)) (old mid new : List SourceName) (start between : ℕ) → old ≡ []
    → start ≡ 0 → mid ≡ old ++ ranges_from start names → between ≡ start + length (joined names)
    → new ≡ mid ++ ranges_from between others → new ≡ ranges_from 0 (names ++ others)
laid_ranges names others old mid new start between empty zero first stands second =
    let at : between ≡ 0 + length (joined names) = omega (arith, stands, zero) in
    second
    ∙ ap (λ (l : List SourceName). l ++ ranges_from between others)
    (first ∙ ap (λ (l : List SourceName). l ++ ranges_from start names) empty)
    ∙ ap (λ (n : ℕ). ranges_from n names ++ ranges_from between others) zero
    ∙ ap (λ (n : ℕ). ranges_from 0 names ++ ranges_from n others) at
    ∙ sym (ranges_append 0 names others)

pub laid_texts : (names others : List (List ℕ)) (old mid new : List ℕ) → old ≡ [] → mid ≡ old ++ joined names
    → new ≡ mid ++ joined others → new ≡ joined (names ++ others)
laid_texts names others old mid new empty first second =
    second ∙ ap (λ (l : List ℕ). l ++ joined others) (first ∙ ap (λ (l : List ℕ). l ++ joined names) empty)
    ∙ sym (joined_append names others)

pub laid_count : (names others : List (List ℕ)) (old mid new : ℕ) → old ≡ 0 → mid ≡ old + length names
    → new ≡ mid + length others → new ≡ length (names ++ others)
laid_count names others old mid new zero first second =
    omega (arith, zero, first, second, length-append names others)

pub laid_length : (names others : List (List ℕ)) (old mid new : ℕ) → old ≡ 0 → mid ≡ old + length (joined names)
    → new ≡ mid + length (joined others) → new ≡ length (joined (names ++ others))
laid_length names others old mid new zero first second =
    omega (arith, zero, first, second, length_joined names others)

-- ---- what is told

pub tells_names : (finding : Finding) (exports reexports : List (List ℕ)) (laid_names names new_names : List SourceName)
    (laid_values values new_values : List ℕ) (exported reexported count bytes fault place status : ℕ) (fit : Bool)
    → exports ≡ exports_in finding → reexports ≡ reexports_in finding
    → laid_names ≡ ranges_from 0 (exports ++ reexports) → laid_values ≡ joined (exports ++ reexports)
    → exported ≡ length exports → reexported ≡ length reexports
    → count ≡ length (exports ++ reexports) → bytes ≡ length (joined (exports ++ reexports))
    → fit ≡ (nat_le count (length names) && nat_le bytes (length values))
    → fault ≡ fault_of finding → place ≡ place_of finding → status ≡ status_of fit finding
    → new_names ≡ after fit laid_names names → new_values ≡ after fit laid_values values
    → TellsExports finding names new_names values new_values
    (record { exports = exported; reexports = reexported; value_bytes = bytes; fault = fault; place = place }) status
tells_names finding exports reexports laid_names names new_names laid_values values new_values exported reexported count
    bytes fault place status fit exports_are reexports_are names_laid values_laid exported_is reexported_is counted filled
    fit_is fault_is place_is status_is new_names_is new_values_is =
    let all : exports ++ reexports ≡ names_in finding = rw (exports_are, reexports_are) refl in
    let whole : fit ≡ names_fit (names_in finding) names values = fit_is ∙ rw (counted, filled, all) refl in
    record {
      counts = rw (exported_is, reexported_is, filled, fault_is, place_is, all, exports_are, reexports_are) refl;
      ranges = new_names_is ∙ rw (whole, names_laid, all) refl;
      texts = new_values_is ∙ rw (whole, values_laid, all) refl;
      ends = status_is ∙ rw whole refl;
    }
