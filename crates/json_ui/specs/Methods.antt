-- The parameters of requests as numbers, and the requests of the methods that have such parameters.
use Rattle.std.specs.Prelude.{ℕ, ℤ, pos, negsuc, ◌+◌, ◌^◌, ◌||◌, List, Bool, nat_lt, if◌then◌else◌, Option, Some, None, is_some, option_map, option_and_then, Result, Ok, Err, codes}
use Rattle.std.specs.Str.{bytes_eq}
use Rattle.serde_json.specs.Data.{Data}
use Rattle.serde_json.specs.Find.{get, at, as_str, as_number, as_u64, as_i64}
use Rattle.text_model.specs.declared.coords.Coord.{Coord}
use Rattle.window_view.specs.Sizes.{sized}
use Rattle.mouse_events.specs.declared.mouse.Button.{Button}
use Rattle.mouse_events.specs.declared.mouse.Button.TheVariants.{Left, Middle, Right}
use Rattle.mouse_events.specs.declared.mouse.Mouse.TheVariants.{Move, Press, Release}
use Rattle.requests.specs.declared.request.Request.{Request}
use Rattle.requests.specs.declared.request.Request.TheVariants.{Resize, Scroll, Mouse, MenuSelect}
use Rattle.drawings.specs.declared.refusal.Refusal.{Refusal}
use Rattle.drawings.specs.declared.refusal.Refusal.TheVariants.{Params}

-- the whole number from 0 and below 2^64 that a value is, if it is one; a number that is written with a fraction or an exponent
-- is none, and neither is `-0`
abbrev pub whole_of : Data → Option ℕ
whole_of value = option_and_then as_u64 (as_number value)

-- the same from -2^63 and below 2^63
abbrev pub signed_of : Data → Option ℤ
signed_of value = option_and_then as_i64 (as_number value)

-- a number, if it is below 2^32
abbrev pub below_32_bits : ℕ → Option ℕ
below_32_bits n = if nat_lt n (2 ^ 32) then Some n else None

-- a number, if it is from -2^31 and below 2^31
abbrev pub within_32_bits : ℤ → Option ℤ
within_32_bits (pos n) = if nat_lt n (2 ^ 31) then Some (pos n) else None
within_32_bits (negsuc n) = if nat_lt n (2 ^ 31) then Some (negsuc n) else None

-- the parameter of a request object with a number, counted from 0, if it has so many in an array
abbrev pub parameter_at : ℕ → Data → Option Data
parameter_at n request = option_and_then (at n) (get (codes "params") request)

-- whether a request object has more parameters than so many
abbrev pub has_more_than : ℕ → Data → Bool
has_more_than n request = is_some (parameter_at n request)

-- the whole numbers that parameters are, if they are
abbrev pub whole_at : ℕ → Data → Option ℕ
whole_at n request = option_and_then whole_of (parameter_at n request)

abbrev pub signed_at : ℕ → Data → Option ℤ
signed_at n request = option_and_then signed_of (parameter_at n request)

-- the number of lines by which a window is to go on, or back
abbrev pub lines_at : ℕ → Data → Option ℤ
lines_at n request = option_and_then within_32_bits (signed_at n request)

-- the place of a line and a column, if there are both
abbrev pub coord_of : Option ℕ → Option ℕ → Option Coord
coord_of None column = None
coord_of (Some line) None = None
coord_of (Some line) (Some column) = Some (record { line = line; column = column })

-- the place that two parameters are, from the one of this number on: a line and a column, each from 0 and below 2^32
abbrev pub coord_at : ℕ → Data → Option Coord
coord_at n request = coord_of (option_and_then below_32_bits (whole_at n request)) (option_and_then below_32_bits (whole_at (n + 1) request))

-- the button of a name
abbrev pub button_named : List ℕ → Option Button
button_named name =
    if bytes_eq name (codes "left") then Some Left
    else (if bytes_eq name (codes "middle") then Some Middle
    else (if bytes_eq name (codes "right") then Some Right else None))

-- the button that a parameter names
abbrev pub button_at : ℕ → Data → Option Button
button_at n request = option_and_then button_named (option_and_then as_str (parameter_at n request))

-- a button and a place, if there are both
abbrev pub pointed_by : Option Button → Option Coord → Option (Button × Coord)
pointed_by None place = None
pointed_by (Some button) None = None
pointed_by (Some button) (Some place) = Some (button, place)

-- the button and the place that three parameters are, or the left button and the place that two are
abbrev pub pointed_in : Data → Option (Button × Coord)
pointed_in request =
    if has_more_than 3 request then None
    else (if has_more_than 2 request then pointed_by (button_at 0 request) (coord_at 1 request)
    else pointed_by (Some Left) (coord_at 0 request))

-- so many rows and columns, if there are both numbers; each is brought into 1 to 1,000
abbrev pub resize_by : Option ℕ → Option ℕ → Option Request
resize_by None columns = None
resize_by (Some rows) None = None
resize_by (Some rows) (Some columns) = Some (Resize (sized rows columns))

-- the request of `resize`: two whole numbers from 0
abbrev pub resize_in : Data → Option Request
resize_in request = if has_more_than 2 request then None else resize_by (whole_at 0 request) (whole_at 1 request)

-- so many lines on or back, with the place where the mouse was
abbrev pub scroll_by : Option ℤ → Option Coord → Option Request
scroll_by None place = None
scroll_by (Some lines) None = None
scroll_by (Some lines) (Some place) = Some (Scroll lines (Some place))

-- the request of `scroll`: a number of lines, and a place or none
abbrev pub scroll_in : Data → Option Request
scroll_in request =
    if has_more_than 3 request then None
    else (if has_more_than 1 request then scroll_by (lines_at 0 request) (coord_at 1 request)
    else option_map (λ lines. Scroll lines None) (lines_at 0 request))

-- the request of `mouse_move`: a place
abbrev pub move_in : Data → Option Request
move_in request = if has_more_than 2 request then None else option_map (λ place. Mouse (Move place)) (coord_at 0 request)

-- the request of `mouse_press`, and that of `mouse_release`: a button and a place, or a place
abbrev pub press_in : Data → Option Request
press_in request = option_map (λ pointed. Mouse (Press pointed.0 pointed.1)) (pointed_in request)

abbrev pub release_in : Data → Option Request
release_in request = option_map (λ pointed. Mouse (Release pointed.0 pointed.1)) (pointed_in request)

-- the request of `menu_select`: a whole number from -2^63 and below 2^64
abbrev pub menu_select_in : Data → Option Request
menu_select_in request =
    if has_more_than 1 request then None
    else (if is_some (whole_at 0 request) || is_some (signed_at 0 request) then Some MenuSelect else None)

-- a request; where there is none, the parameters don't fit the method
abbrev pub fitting : Option Request → Result Request Refusal
fitting None = Err Params
fitting (Some request) = Ok request
