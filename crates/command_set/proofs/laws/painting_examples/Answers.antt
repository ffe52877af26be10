-- The examples hold by computation, with the readings of faces and the parts of the world open.
use Rattle.std.specs.Str.{chars}
use lib.Utf8.{encode}
use Rattle.face_texts.specs.Colours.{word_colour, with_underline, with_ground, colours_of}
use Rattle.face_texts.specs.Letters.{with_final, with_letter, attributes_at}
use Rattle.face_texts.specs.Texts.{attributes_of, own_face, base_of, face_text_of}
use Rattle.kak_world.specs.Flat.{client_of, shown_of, rest_of, with_rest, scoped_of, with_scoped}
use Rattle.command_set.specs.Finishing.{row_finish}
use Rattle.command_set.specs.PaintingExamples.{NamingExamples, WordExamples, FaceExamples, PathExamples, BoxExamples}
use Rattle.command_set.proofs.laws.painting_examples.Goals as goal

naming : NamingExamples
unfolding chars encode
naming = search

words : WordExamples
unfolding chars encode word_colour with_underline with_ground colours_of with_final with_letter attributes_at attributes_of own_face base_of face_text_of
words = search

faces : FaceExamples
unfolding chars encode word_colour with_underline with_ground colours_of with_final with_letter attributes_at attributes_of own_face base_of face_text_of rest_of with_rest
faces = search

paths : PathExamples
unfolding chars encode word_colour with_underline with_ground colours_of with_final with_letter attributes_at attributes_of own_face base_of face_text_of client_of shown_of rest_of with_rest scoped_of with_scoped row_finish
paths = search

boxes : BoxExamples
unfolding chars encode
boxes = search

pub returns : goal.returns
returns c = record { naming = naming; words = words; faces = faces; paths = paths; boxes = boxes }
