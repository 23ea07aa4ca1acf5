-- The text of a plan's bundle is that of its value.
use Rattle.std.proofs.Common.{◌≡◌, ◌∙◌, refl, sym, ap, ℕ, Bool, true, false, List, [], ◌∷◌, ◌++◌, append_assoc, append-nil, decimal, Option, Some, None}
use Rattle.std.specs.Prelude.{codes}
use Rattle.std.specs.List.{flat_map}
use Rattle.json.specs.Print.{escape_byte, quoted, token_text}
use Rattle.json.specs.Token.{Token}
use Rattle.base64.specs.Engines.{standard}
use Rattle.base64.specs.GeneralPurpose.{encode_of}
use Rattle.serde_json.specs.Data.{Data, Items, no_items, item}
use Rattle.serde_json.specs.Written.{compact_text, items_text}
use Rattle.url.specs.Parts.{Parts}
use Rattle.graph_entry.specs.declared.kind.GraphKind.{GraphKind}
use Rattle.graph_entry.specs.declared.kind.GraphKind.TheVariants.{All, CodeOnly, TypesOnly}
use Rattle.graph_entry.specs.Specifier.{text_of}
use Rattle.graph_vendor.specs.declared.plan.VendorPlan.{VendorPlan}
use Rattle.vendor_files.specs.declared.file.VendorFile.{VendorFile}
use Rattle.vendor_report.specs.declared.wanted.Wanted.{Wanted}
use Rattle.vendor_report.specs.Plans.{url_json, text_front, text_key, coded_front, coded_key, external_front, end, text_json, coded_json, plain_text, file_by, file_json, external_json, later_file, later_external, later_root, externals_json, modules_json, roots_json, kind_word, truth_word, front, back_front, last, back, plan_text}
use Rattle.vendor_laws.specs.Written.{items_onto, url_value, file_value_by, file_value, external_value, modules_value, roots_value, plan_value}

-- ---- one module

file_text_by : (file : VendorFile) (text : Option (List ℕ)) → compact_text (file_value_by file text) ≡ file_by file text
unfolding escape_byte text_front text_key coded_front coded_key end text_json coded_json
file_text_by file (Some text) =
    let s = quoted (text_of file.target) in
    let t = quoted text in
    let shown : codes "{\"specifier\":" ++ (s ++ (codes ",\"text\":" ++ (t ++ codes "}")))
    ≡ codes "{\"specifier\":" ++ s ++ codes ",\"text\":" ++ t ++ codes "}" = simp append_assoc in
    shown
file_text_by file None =
    let s = quoted (text_of file.target) in
    let t = quoted (encode_of standard file.bytes) in
    let shown : codes "{\"base64\":" ++ (t ++ (codes ",\"specifier\":" ++ (s ++ codes "}")))
    ≡ codes "{\"base64\":" ++ t ++ codes ",\"specifier\":" ++ s ++ codes "}" = simp append_assoc in
    shown

pub file_text : (file : VendorFile) → compact_text (file_value file) ≡ file_json file
unfolding file_json
file_text file = file_text_by file (plain_text file)

pub external_text : (url : Parts) → compact_text (external_value url) ≡ external_json url
unfolding escape_byte external_front end external_json
external_text url =
    let s = quoted (text_of url) in
    let shown : codes "{\"external\":true,\"specifier\":" ++ (s ++ codes "}")
    ≡ codes "{\"external\":true,\"specifier\":" ++ s ++ codes "}" = simp append_assoc in
    shown

pub url_text : (url : Parts) → compact_text (url_value url) ≡ url_json url
unfolding url_json
url_text url = refl

-- ---- lists

-- a comma stands in front of each
later : {X : Type 0} (f : X → Data) (g : X → List ℕ) → ((x : X) → g x ≡ 44 ∷ compact_text (f x)) → (xs : List X)
    (rest : Items) → items_text true (items_onto f xs rest) ≡ flat_map g xs ++ items_text true rest
later {X} f g each [] rest = refl
later {X} f g each (x ∷ xs) rest =
    ap (λ (l : List ℕ). 44 ∷ (compact_text (f x) ++ l)) (later f g each xs rest)
    ∙ ap (λ (l : List ℕ). l ++ (flat_map g xs ++ items_text true rest)) (sym (each x))
    ∙ sym (append_assoc (g x) (flat_map g xs) (items_text true rest))

each_file : (file : VendorFile) → later_file file ≡ 44 ∷ compact_text (file_value file)
unfolding later_file
each_file file = ap (λ (l : List ℕ). 44 ∷ l) (sym (file_text file))

each_external : (url : Parts) → later_external url ≡ 44 ∷ compact_text (external_value url)
unfolding later_external
each_external url = ap (λ (l : List ℕ). 44 ∷ l) (sym (external_text url))

each_root : (url : Parts) → later_root url ≡ 44 ∷ compact_text (url_value url)
unfolding later_root
each_root url = ap (λ (l : List ℕ). 44 ∷ l) (sym (url_text url))

externals_text : (urls : List Parts)
    → items_text false (items_onto external_value urls no_items) ≡ externals_json urls ++ 93 ∷ []
externals_text [] = refl
externals_text (url ∷ urls) =
    ap (λ (l : List ℕ). compact_text (external_value url) ++ l)
    (later external_value later_external each_external urls no_items)
    ∙ ap (λ (l : List ℕ). l ++ (flat_map later_external urls ++ 93 ∷ [])) (external_text url)
    ∙ sym (append_assoc (external_json url) (flat_map later_external urls) (93 ∷ []))

modules_text : (files : List VendorFile) (urls : List Parts)
    → items_text false (items_onto file_value files (items_onto external_value urls no_items))
    ≡ modules_json files urls ++ 93 ∷ []
modules_text [] urls = externals_text urls
modules_text (file ∷ files) urls =
    ap (λ (l : List ℕ). compact_text (file_value file) ++ l)
    (later file_value later_file each_file files (items_onto external_value urls no_items)
    ∙ ap (λ (l : List ℕ). flat_map later_file files ++ l)
    (later external_value later_external each_external urls no_items))
    ∙ ap (λ (l : List ℕ). l ++ (flat_map later_file files ++ (flat_map later_external urls ++ 93 ∷ [])))
    (file_text file)
    ∙ simp append_assoc

roots_text : (urls : List Parts) → items_text false (items_onto url_value urls no_items) ≡ roots_json urls ++ 93 ∷ []
roots_text [] = refl
roots_text (url ∷ urls) =
    ap (λ (l : List ℕ). compact_text (url_value url) ++ l) (later url_value later_root each_root urls no_items)
    ∙ ap (λ (l : List ℕ). l ++ (flat_map later_root urls ++ 93 ∷ [])) (url_text url)
    ∙ sym (append_assoc (url_json url) (flat_map later_root urls) (93 ∷ []))

-- ---- the whole

-- the value's text, by the texts of its lists
abbrev shown : GraphKind → ℕ → List ℕ → List ℕ → Bool → List ℕ
shown kind limit modules roots truth =
    codes "{\"kind\":\""
    ++ (kind_word kind
    ++ (codes "\",\"limit\":"
    ++ (decimal limit ++
    (codes ",\"modules\":["
    ++ (modules ++ (codes ",\"roots\":["
    ++ (roots ++ (codes ",\"skipDynamicDeps\":" ++ (truth_word truth ++ codes "}")))))))))

abbrev inner : Wanted → VendorPlan → Bool → List ℕ
inner wanted plan truth =
    codes "\",\"limit\":"
    ++ (decimal wanted.limit
    ++ (codes ",\"modules\":["
    ++ (items_text false (modules_value plan)
    ++ (codes ",\"roots\":["
    ++ (items_text false (roots_value plan)
    ++ (codes ",\"skipDynamicDeps\":" ++ (truth_word truth ++ codes "}")))))))

value_by : (wanted : Wanted) (plan : VendorPlan) (kind : GraphKind) (truth : Bool)
    → compact_text (plan_value (record { kind = kind; limit = wanted.limit; skip_dynamic_deps = truth }) plan)
    ≡ codes "{\"kind\":\"" ++ (kind_word kind ++ inner wanted plan truth)
unfolding escape_byte
value_by wanted plan All true = refl
value_by wanted plan All false = refl
value_by wanted plan CodeOnly true = refl
value_by wanted plan CodeOnly false = refl
value_by wanted plan TypesOnly true = refl
value_by wanted plan TypesOnly false = refl

value_shown : (wanted : Wanted) (plan : VendorPlan) → compact_text (plan_value wanted plan)
    ≡ shown wanted.kind wanted.limit (items_text false (modules_value plan)) (items_text false (roots_value plan))
    wanted.skip_dynamic_deps
value_shown wanted plan = value_by wanted plan wanted.kind wanted.skip_dynamic_deps

regroup_plan : (a k b d c m e r f t z : List ℕ)
    → (a ++ k ++ b ++ d ++ c) ++ m ++ e ++ r ++ (f ++ t ++ z)
    ≡ a ++ (k ++ (b ++ (d ++ (c ++ (m ++ (e ++ (r ++ (f ++ (t ++ z)))))))))
regroup_plan a k b d c m e r f t z = simp append_assoc

regroup_shown : (a k b d c m x e r w f t z y : List ℕ)
    → (a ++ (k ++ (b ++ (d ++ (c ++ ((m ++ x) ++ (e ++ ((r ++ w) ++ (f ++ (t ++ z)))))))))) ++ y
    ≡ a ++ (k ++ (b ++ (d ++ (c ++ (m ++ (x ++ (e ++ (r ++ (w ++ (f ++ (t ++ (z ++ y))))))))))))
regroup_shown a k b d c m x e r w f t z y = simp append_assoc

pub plan_compact : (wanted : Wanted) (plan : VendorPlan)
    → plan_text wanted plan ≡ compact_text (plan_value wanted plan) ++ 10 ∷ []
unfolding plan_text front back back_front last
plan_compact wanted plan =
    let k = kind_word wanted.kind in
    let d = decimal wanted.limit in
    let m = modules_json plan.files plan.externals in
    let r = roots_json plan.roots in
    let t = truth_word wanted.skip_dynamic_deps in
    let left = regroup_plan (codes "{\"kind\":\"") k (codes "\",\"limit\":") d (codes ",\"modules\":[") m
    (codes "],\"roots\":[") r (codes "],\"skipDynamicDeps\":") t (codes "}\n") in
    let right = regroup_shown (codes "{\"kind\":\"") k (codes "\",\"limit\":") d (codes ",\"modules\":[") m (93 ∷ [])
    (codes ",\"roots\":[") r (93 ∷ []) (codes ",\"skipDynamicDeps\":") t (codes "}") (10 ∷ []) in
    left ∙ sym right
    ∙ ap (λ (l : List ℕ). shown wanted.kind wanted.limit l (r ++ 93 ∷ []) wanted.skip_dynamic_deps ++ 10 ∷ [])
    (sym (modules_text plan.files plan.externals))
    ∙ ap (λ (l : List ℕ).
    shown wanted.kind wanted.limit (items_text false (modules_value plan)) l wanted.skip_dynamic_deps ++ 10 ∷ [])
    (sym (roots_text plan.roots))
    ∙ ap (λ (l : List ℕ). l ++ 10 ∷ []) (sym (value_shown wanted plan))
