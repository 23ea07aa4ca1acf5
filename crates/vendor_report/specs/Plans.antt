-- What is written of a plan: a bundle of its files in JSON (RFC 8259, without blanks), or the line of a refusal (this
-- project's profile).
use Rattle.std.specs.Prelude.{ℕ, nat_eq, Bool, true, false, not, ◌||◌, List, [], ◌∷◌, ◌++◌, codes, decimal, Option, Some, None, if◌then◌else◌}
use Rattle.std.specs.List.{ends_with, flat_map}
use Rattle.std.specs.Str.{is_utf8}
use Rattle.json.specs.Print.{quoted}
use Rattle.base64.specs.Engines.{standard}
use Rattle.base64.specs.GeneralPurpose.{encode_of}
use Rattle.url.specs.Parts.{Parts}
use Rattle.graph_entry.specs.declared.kind.GraphKind.{GraphKind}
use Rattle.graph_entry.specs.declared.kind.GraphKind.TheVariants.{All, CodeOnly, TypesOnly}
use Rattle.graph_entry.specs.Specifier.{text_of}
use Rattle.graph_builder.specs.declared.options.BuildOptions.{BuildOptions}
use Rattle.graph_vendor.specs.declared.plan.VendorCause.{VendorCause}
use Rattle.graph_vendor.specs.declared.plan.VendorCause.TheVariants as cause
use Rattle.graph_vendor.specs.declared.plan.VendorPlan.{VendorPlan}
use Rattle.vendor_files.specs.declared.file.VendorFile.{VendorFile}
use Rattle.vendor_report.specs.declared.wanted.Wanted.{Wanted}

-- what a bundle with these options keeps: all but what places outside import
abbrev pub wanted_of : BuildOptions → Wanted
wanted_of options =
    record { kind = options.kind; limit = options.limit; skip_dynamic_deps = options.skip_dynamic_deps }

-- ---- a module

-- a specifier as a JSON string
unfoldable pub url_json : Parts → List ℕ
url_json url = quoted (text_of url)

-- what stands in front of a specifier or a code, between them and a text, and behind
unfoldable pub text_front : List ℕ
text_front = codes "{\"specifier\":"

unfoldable pub text_key : List ℕ
text_key = codes ",\"text\":"

unfoldable pub coded_front : List ℕ
coded_front = codes "{\"base64\":"

unfoldable pub coded_key : List ℕ
coded_key = codes ",\"specifier\":"

unfoldable pub external_front : List ℕ
external_front = codes "{\"external\":true,\"specifier\":"

unfoldable pub end : List ℕ
end = codes "}"

-- the module of a text
unfoldable pub text_json : Parts → List ℕ → List ℕ
text_json target text = text_front ++ quoted (text_of target) ++ text_key ++ quoted text ++ end

-- the module of bytes in base64 (RFC 4648, section 4)
unfoldable pub coded_json : VendorFile → List ℕ
coded_json file =
    coded_front ++ quoted (encode_of standard file.bytes) ++ coded_key ++ quoted (text_of file.target) ++ end

-- the file's bytes are written in base64: it is WebAssembly by its name, or they are no UTF-8
abbrev pub is_coded : VendorFile → Bool
is_coded file = ends_with nat_eq (text_of file.target) (codes ".wasm") || not (is_utf8 file.bytes)

-- the text that they are written as else
unfoldable pub plain_text : VendorFile → Option (List ℕ)
plain_text file = if is_coded file then None else Some file.bytes

-- the module of a file
abbrev pub file_by : VendorFile → Option (List ℕ) → List ℕ
file_by file (Some text) = text_json file.target text
file_by file None = coded_json file

unfoldable pub file_json : VendorFile → List ℕ
file_json file = file_by file (plain_text file)

-- the module that isn't part of the sources
unfoldable pub external_json : Parts → List ℕ
external_json url = external_front ++ quoted (text_of url) ++ end

-- ---- lists

-- a comma stands in front of all but the first
unfoldable pub later_file : VendorFile → List ℕ
later_file file = codes "," ++ file_json file

unfoldable pub later_external : Parts → List ℕ
later_external url = codes "," ++ external_json url

unfoldable pub later_root : Parts → List ℕ
later_root url = codes "," ++ url_json url

abbrev pub externals_json : List Parts → List ℕ
externals_json [] = []
externals_json (url ∷ urls) = external_json url ++ flat_map later_external urls

-- the files, and then what isn't part of the sources
abbrev pub modules_json : List VendorFile → List Parts → List ℕ
modules_json [] externals = externals_json externals
modules_json (file ∷ files) externals =
    file_json file ++ flat_map later_file files ++ flat_map later_external externals

abbrev pub roots_json : List Parts → List ℕ
roots_json [] = []
roots_json (url ∷ urls) = url_json url ++ flat_map later_root urls

-- ---- the bundle

abbrev pub kind_word : GraphKind → List ℕ
kind_word All = codes "all"
kind_word CodeOnly = codes "code"
kind_word TypesOnly = codes "types"

abbrev pub truth_word : Bool → List ℕ
truth_word true = codes "true"
truth_word false = codes "false"

-- what stands in front of the modules, and behind the roots
unfoldable pub front : Wanted → List ℕ
front wanted =
    codes "{\"kind\":\"" ++ kind_word wanted.kind ++ codes "\",\"limit\":" ++ decimal wanted.limit
    ++ codes ",\"modules\":["

unfoldable pub back_front : List ℕ
back_front = codes "],\"skipDynamicDeps\":"

unfoldable pub last : List ℕ
last = codes "}\n"

unfoldable pub back : Wanted → List ℕ
back wanted = back_front ++ truth_word wanted.skip_dynamic_deps ++ last

-- the bundle of a plan's files
unfoldable pub plan_text : Wanted → VendorPlan → List ℕ
plan_text wanted plan =
    front wanted ++ modules_json plan.files plan.externals ++ codes "],\"roots\":[" ++ roots_json plan.roots
    ++ back wanted

-- ---- the refusal

abbrev pub cause_word : VendorCause → List ℕ
cause_word cause.ReferrerImport = codes "ReferrerImport"
cause_word cause.DataName = codes "DataName"
cause_word cause.EntryError = codes "EntryError"
cause_word cause.OtherAnalyser = codes "OtherAnalyser"
cause_word cause.RefusedEdge = codes "RefusedEdge"
cause_word cause.ReferenceComment = codes "ReferenceComment"
cause_word cause.WasmImport = codes "WasmImport"
cause_word cause.NameTaken = codes "NameTaken"
cause_word cause.NameNotKept = codes "NameNotKept"

-- the line of a refusal: the cause, and the specifier that has it
unfoldable pub refused_line : VendorCause → Parts → List ℕ
refused_line why specifier =
    codes "error Vendor " ++ cause_word why ++ codes " " ++ text_of specifier ++ codes "\n"
