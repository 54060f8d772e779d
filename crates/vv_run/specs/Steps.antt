-- What a line of a script does to the durable array, and a run over lines: a step for each of them.
use Rattle.std.specs.Prelude.{◌≡◌, ℕ, List, [], ◌∷◌, Option, Some, None, ⊤, ◌⊎◌}
use Rattle.vv_flat.specs.Profiles.{Capability}
use Rattle.vv_calls.specs.declared.call.LineFault.TheVariants as fault
use Rattle.vv_reply.specs.declared.reply.Reply.{Reply}
use Rattle.vv_reply.specs.declared.reply.Reply.TheVariants.{Line}
use Rattle.vv_meaning.specs.Steps.{State, Step, Report}
use Rattle.vv_array.specs.Moments.{StandsForOne}

-- From a state a line may be answered so, and may leave that state. A line that is too long is answered so whatever the state
-- is, which stays.
abbrev pub LineStep : List Capability → State → Option (List ℕ) → Option ℕ → Reply → State → Type 0
LineStep capabilities old (Some line) recovered answer new = Step capabilities old line recovered answer new
LineStep capabilities old None recovered answer new = (recovered ≡ None) × (answer ≡ Line fault.LineTooLong) × (new ≡ old)

-- A run: a step for each line, each from the state that the one before left. It passes these states, one after each line.
abbrev pub Run : List Capability → State → List (Option (List ℕ)) → List Report → List State → Type 0
Run capabilities old [] [] [] = ⊤
Run capabilities old [] [] (new ∷ states) = ⊥
Run capabilities old [] (r ∷ reports) states = ⊥
Run capabilities old (line ∷ lines) [] states = ⊥
Run capabilities old (line ∷ lines) (r ∷ reports) [] = ⊥
Run capabilities old (line ∷ lines) (r ∷ reports) (new ∷ states) =
    LineStep capabilities old line r.recovered r.answer new × Run capabilities new lines reports states

-- the state that a run leaves which begins at this one and passes those
abbrev pub last_state : State → List State → State
last_state old [] = old
last_state old (new ∷ states) = last_state new states

-- an image stands for one of these states
abbrev pub StandsForAny : List State → List ℕ → Type 0
StandsForAny [] image = ⊥
StandsForAny (state ∷ states) image = StandsForOne state image ⊎ StandsForAny states image

-- An image stands for the state at which a run begins, or for one of those that it passes.
abbrev pub StandsInRun : State → List State → List ℕ → Type 0
StandsInRun start states image = StandsForAny (start ∷ states) image
