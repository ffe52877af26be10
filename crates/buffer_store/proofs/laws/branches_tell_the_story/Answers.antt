use Rattle.buffer_store.proofs.SeenLemmas.{told-story, nodes-with_heir, nodes-push}
use Rattle.buffer_store.proofs.laws.branches_tell_the_story.Goals as goal

pub returns : goal.returns
returns c = record { first_text_is_found = told-story; heirs_are_heirs = nodes-with_heir; one_more = nodes-push }
