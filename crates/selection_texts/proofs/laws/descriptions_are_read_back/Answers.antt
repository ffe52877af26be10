use Rattle.selection_texts.proofs.ReadBackLemmas.{told-meant, list-meant, text-read}
use Rattle.selection_texts.proofs.laws.descriptions_are_read_back.Goals as goal

pub returns : goal.returns
returns c = record { meant_is_told = told-meant; list_is_meant = list-meant; text_is_read = text-read }
