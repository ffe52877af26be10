-- The bytes of texts, drawings and refusals.
use Rattle.std.specs.Prelude.{◌≡◌, [], ◌∷◌, ◌++◌, true, false, codes}
use Rattle.kak_faces.specs.declared.colour.Colour.TheVariants.{Rgb}
use Rattle.kak_faces.specs.declared.standard.StandardFace.TheVariants as name
use Rattle.kak_faces.specs.Standard.{no_attributes, default_face, standard_face}
use Rattle.drawings.specs.declared.drawing.Drawing.{Drawing}
use Rattle.drawings.specs.declared.drawing.Info.TheVariants.{Keep, Hide, Show}
use Rattle.drawings.specs.declared.refusal.Refusal.TheVariants.{TooLong, Parse, Method, Key}
use Rattle.json_writing.specs.JsonText.{string_text}
use Rattle.json_writing.specs.Drawings.{colour_text, face_text, info_lines, drawing_bytes}
use Rattle.json_writing.specs.Refusals.{refusal_bytes}

-- the first drawing of an empty buffer, before any key
abbrev pub first_drawing : Drawing
first_drawing = record {
  first = true;
  lines = record { atoms = record { contents = 10 ∷ []; face = standard_face name.PrimaryCursorEol } ∷ [] } ∷ [];
  default_face = default_face;
  padding_face = standard_face name.BufferPadding;
  status = record { atoms = [] };
  mode_line = record { atoms = record { contents = codes "*scratch* 1:1 normal 1/1 - client0"; face = standard_face name.StatusLine } ∷ [] };
  status_face = standard_face name.StatusLine;
  cursor = record { prompt = false; line = 0; column = 0 };
  info = Keep;
}

-- the table of examples
pub record WorkedExamples : Type 0 where
  pub first : drawing_bytes first_drawing ≡
      codes "{\"jsonrpc\":\"2.0\",\"method\":\"set_ui_options\",\"params\":[{}]}\n"
      ++ codes "{\"jsonrpc\":\"2.0\",\"method\":\"draw\",\"params\":[[[{\"contents\":\"\\n\",\"face\":{\"attributes\":[],\"bg\":\"cyan\",\"fg\":\"black\",\"underline\":\"default\"}}]],{\"attributes\":[],\"bg\":\"default\",\"fg\":\"default\",\"underline\":\"default\"},{\"attributes\":[],\"bg\":\"default\",\"fg\":\"blue\",\"underline\":\"default\"}]}\n"
      ++ codes "{\"jsonrpc\":\"2.0\",\"method\":\"draw_status\",\"params\":[[],[{\"contents\":\"*scratch* 1:1 normal 1/1 - client0\",\"face\":{\"attributes\":[],\"bg\":\"default\",\"fg\":\"cyan\",\"underline\":\"default\"}}],{\"attributes\":[],\"bg\":\"default\",\"fg\":\"cyan\",\"underline\":\"default\"}]}\n"
      ++ codes "{\"jsonrpc\":\"2.0\",\"method\":\"set_cursor\",\"params\":[\"buffer\",{\"column\":0,\"line\":0}]}\n"
      ++ codes "{\"jsonrpc\":\"2.0\",\"method\":\"refresh\",\"params\":[false]}\n"
  -- escapes inside a string
  pub escapes : string_text (34 ∷ 92 ∷ 8 ∷ 9 ∷ 10 ∷ 12 ∷ 13 ∷ 47 ∷ []) ≡ codes "\"\\\"\\\\\\b\\t\\n\\f\\r/\""
  pub controls : string_text (0 ∷ 27 ∷ 31 ∷ 127 ∷ []) ≡ codes "\"\\u0000\\u001b\\u001f" ++ 127 ∷ 34 ∷ []
  pub two_bytes : string_text (233 ∷ []) ≡ 34 ∷ 195 ∷ 169 ∷ 34 ∷ []
  -- faces
  pub mixed_colour : colour_text (Rgb 255 0 10) ≡ codes "#ff000a"
  pub attributes : face_text (record default_face { attributes = record no_attributes { final_attr = true; bold = true; underline = true } }) ≡
      codes "{\"attributes\":[\"underline\",\"bold\",\"final_attr\"],\"bg\":\"default\",\"fg\":\"default\",\"underline\":\"default\"}"
  -- a box that goes, and one that comes
  pub hidden : info_lines Hide ≡ codes "{\"jsonrpc\":\"2.0\",\"method\":\"info_hide\",\"params\":[]}\n"
  pub shown : info_lines (Show (record { title = record { atoms = [] }; content = record { atoms = [] } ∷ record { atoms = [] } ∷ []; face = standard_face name.Information })) ≡
      codes "{\"jsonrpc\":\"2.0\",\"method\":\"info_show\",\"params\":[[],[[],[]],{\"column\":0,\"line\":0},{\"attributes\":[],\"bg\":\"yellow\",\"fg\":\"black\",\"underline\":\"default\"},\"prompt\"]}\n"
  -- refusals
  pub second_key : refusal_bytes (Key 1) ≡ codes "{\"error\":{\"code\":-32602,\"message\":\"Key 1\"},\"id\":null,\"jsonrpc\":\"2.0\"}\n"
  pub too_long : refusal_bytes TooLong ≡ codes "{\"error\":{\"code\":-32600,\"message\":\"TooLong\"},\"id\":null,\"jsonrpc\":\"2.0\"}\n"
  pub parse : refusal_bytes Parse ≡ codes "{\"error\":{\"code\":-32700,\"message\":\"Parse\"},\"id\":null,\"jsonrpc\":\"2.0\"}\n"
  pub method : refusal_bytes Method ≡ codes "{\"error\":{\"code\":-32601,\"message\":\"Method\"},\"id\":null,\"jsonrpc\":\"2.0\"}\n"
