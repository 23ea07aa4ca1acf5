-- The set of the code is the one that is written out.
use Rattle.std.proofs.Common.{◌≡◌, ◌∙◌, ◌++◌, ◌∷◌, [], ap₂, append_assoc, string_bytes}
use Rattle.std.specs.List.{flat_map}
use Rattle.std.proofs.lemmas.Result.{on_ok_weaker}
use Rattle.file_url.specs.FileUrls.{escaped_byte}
use Rattle.file_url.proofs.SetLemmas.{name_is_escaped}
use Rattle.file_url.proofs.text.push_name.Goals as goal

pub returns : goal.returns
returns c =
    let encoded = c.utf8_percent_encode.ensures.text ∙ name_is_escaped c.args.name.now in
    on_ok_weaker c.append_to.result
    (λ written. written ∙ ap₂ (λ a b. a ++ b) c.in_ok-push_str.ensures.bytes encoded
    ∙ append_assoc (string_bytes c.args.text.now) (47 ∷ []) (flat_map escaped_byte c.args.name.now))
    c.append_to.ensures.ok
