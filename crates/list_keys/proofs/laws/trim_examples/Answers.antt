-- The examples hold by computation, with the tables of characters open.
use Rattle.unicode.proofs.CategoryComputing.{ucd_category}
use Rattle.unicode.proofs.DerivedComputing.{ucd_derived}
use Rattle.list_keys.proofs.laws.trim_examples.Goals as goal

pub returns : goal.returns
unfolding ucd_category ucd_derived
returns c = search
