use Rattle.undo_model.proofs.StoryLemmas.{opened-story, committed-story, committed_by-story, edited-story, moved-story, undone-story, redone-story, marked_saved-story}
use Rattle.undo_model.proofs.laws.stories_are_kept.Goals as goal

pub returns : goal.returns
returns c = record {
  opening = opened-story;
  committing = committed-story;
  committing_own = committed_by-story;
  editing = edited-story;
  moving = moved-story;
  going_back = undone-story;
  going_on = redone-story;
  saving = marked_saved-story;
}
