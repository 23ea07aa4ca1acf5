-- The URLs of modules made by number.
use Rattle.std.specs.Prelude.{ℕ, List, [], ◌++◌, codes, decimal, Some, None}
use Rattle.url.specs.declared.host.Host.TheVariants.{Domain}
use Rattle.url.specs.Parts.{Parts}

abbrev pub path_of : ℕ → List ℕ
path_of i = codes "/m/" ++ (decimal i ++ codes ".ts")

abbrev pub url_at : ℕ → Parts
url_at i = record {
  scheme = codes "file";
  username = [];
  password = [];
  host = Some (Domain []);
  port = None;
  path = path_of i;
  query = None;
  fragment = None;
}
