-- The words of the command line: `new PATH CHUNKS BLOCKS MAP`, `run PATH`, `gen SEED LINES` and
-- `load PATH CHUNKS BLOCKS MAP SEED LINES`.
use Rattle.std.specs.Prelude.{ℕ, ◌^◌, ◌&&◌, List, [], ◌∷◌, length, map, Bool, Option, Some, None, String, codes, string_bytes, nat_le, nat_lt, if◌then◌else◌}
use Rattle.std.specs.Global.{Global}
use Rattle.std.specs.List.{list_all}
use Rattle.std.specs.Str.{bytes_eq}
use Rattle.std.specs.Str.Parse.{digits_value}
use Rattle.vv_units.specs.declared.geometry.Geometry.{Geometry}
use Rattle.vv_data.specs.Layout.{disk_len}
use Rattle.vv_journal.specs.Geometries.{geometry_of}
use Rattle.vv_run.specs.declared.words.Command.{Command}
use Rattle.vv_run.specs.declared.words.Command.TheVariants as command
use Rattle.vv_run.specs.declared.words.Recipe.{Recipe}
use Rattle.vv_run.specs.declared.words.Request.{Request}
use Rattle.vv_run.specs.declared.words.Request.TheVariants as request
use Rattle.vv_run.specs.declared.words.Wanted.{Wanted}
use Rattle.vv_run.specs.declared.words.Wanted.TheVariants as wanted

abbrev pub is_digit : ℕ → Bool
is_digit c = nat_le 48 c && nat_le c 57

-- a number is 1 to 20 decimal digits, and below 2^64
abbrev pub number_of_word : List ℕ → Option ℕ
number_of_word word =
    if nat_le 1 (length word) && nat_le (length word) 20 && list_all is_digit word && nat_lt (digits_value 10 word) (2 ^ 64)
    then Some (digits_value 10 word) else None

-- three numbers as the sizes of an array: chunks of the pool, blocks in a chunk and entries of the map, inside their limits
abbrev pub sizes_of : Option ℕ → Option ℕ → Option ℕ → Option Geometry
sizes_of (Some chunks) (Some blocks) (Some entries) = geometry_of blocks chunks entries
sizes_of (Some chunks) (Some blocks) None = None
sizes_of (Some chunks) None entries = None
sizes_of None blocks entries = None

-- two numbers as a script that is generated: its seed, and how many lines are drawn, which are at most 10,000
abbrev pub recipe_of : Option ℕ → Option ℕ → Option Recipe
recipe_of (Some seed) (Some lines) = if nat_le lines 10000 then Some (record { seed = seed; lines = lines }) else None
recipe_of (Some seed) None = None
recipe_of None lines = None

-- what is asked for by two words, by five, by three and by seven; but with `gen` the second is a path

abbrev pub run_asked : List ℕ → Option Request
run_asked verb = if bytes_eq verb (codes "run") then Some (request.Serve command.Run) else None

abbrev pub to_serve : Option Geometry → Option Request
to_serve (Some sizes) = Some (request.Serve (command.New sizes))
to_serve None = None

abbrev pub new_asked : List ℕ → List ℕ → List ℕ → List ℕ → Option Request
new_asked verb chunks blocks entries =
    if bytes_eq verb (codes "new")
    then to_serve (sizes_of (number_of_word chunks) (number_of_word blocks) (number_of_word entries))
    else None

abbrev pub to_generate : Option Recipe → Option Request
to_generate (Some recipe) = Some (request.Generate recipe)
to_generate None = None

abbrev pub generate_asked : List ℕ → List ℕ → List ℕ → Option Request
generate_asked verb seed lines =
    if bytes_eq verb (codes "gen") then to_generate (recipe_of (number_of_word seed) (number_of_word lines)) else None

abbrev pub to_load : Option Geometry → Option Recipe → Option Request
to_load (Some sizes) (Some recipe) = Some (request.Load sizes recipe)
to_load (Some sizes) None = None
to_load None recipe = None

abbrev pub load_asked : List ℕ → List ℕ → List ℕ → List ℕ → List ℕ → List ℕ → Option Request
load_asked verb chunks blocks entries seed lines =
    if bytes_eq verb (codes "load")
    then to_load (sizes_of (number_of_word chunks) (number_of_word blocks) (number_of_word entries))
    (recipe_of (number_of_word seed) (number_of_word lines))
    else None

-- what words ask for, if they have one of the forms and their numbers are inside their limits
abbrev pub request_in : List (List ℕ) → Option Request
request_in (verb ∷ path ∷ []) = run_asked verb
request_in (verb ∷ seed ∷ lines ∷ []) = generate_asked verb seed lines
request_in (verb ∷ path ∷ chunks ∷ blocks ∷ entries ∷ []) = new_asked verb chunks blocks entries
request_in (verb ∷ path ∷ chunks ∷ blocks ∷ entries ∷ seed ∷ lines ∷ []) = load_asked verb chunks blocks entries seed lines
request_in _ = None

abbrev pub requested_by : List (String Global) → Option Request
requested_by words = request_in (map (λ word. string_bytes word) words)

-- the array on which the script of the source is served: `gen` and `load` don't look at the source
abbrev pub served_in : Option Request → Option Command
served_in None = None
served_in (Some (request.Serve command)) = Some command
served_in (Some (request.Generate recipe)) = None
served_in (Some (request.Load sizes recipe)) = None

abbrev pub asked_by : List (String Global) → Option Command
asked_by words = served_in (requested_by words)

-- the array that is made or opened: `load` makes one as `new` does
abbrev pub array_in : Option Request → Option Command
array_in None = None
array_in (Some (request.Serve command)) = Some command
array_in (Some (request.Generate recipe)) = None
array_in (Some (request.Load sizes recipe)) = Some (command.New sizes)

abbrev pub array_by : List (String Global) → Option Command
array_by words = array_in (requested_by words)

-- the disk that a command is run on
abbrev pub wanted_for : Option Command → Wanted
wanted_for None = wanted.Nothing
wanted_for (Some (command.New geometry)) = wanted.Create (disk_len geometry)
wanted_for (Some command.Run) = wanted.Open
