-- Reading in steps.
use Rattle.std.specs.Prelude.{◌≡◌, Option, Some, None, Result, Ok, Err, ⊤}
use Rattle.vv_calls.specs.declared.call.LineFault.{LineFault}
use Rattle.vv_calls.specs.declared.call.LineFault.TheVariants as fault

-- a later step is taken with what the one before it gave
infixl 10 ◌>>=◌
abbrev pub ◌>>=◌ : {A B : Type 0} → Option A → (A → Option B) → Option B
(Some x) >>= next = next x
None >>= next = None

-- What is made of several fields is given them one after the other, and the first fault is the answer.
infixl 10 ◌<*>◌
abbrev pub ◌<*>◌ : {A B : Type 0} → Result (A → B) LineFault → Result A LineFault → Result B LineFault
(Ok make) <*> (Ok x) = Ok (make x)
(Ok make) <*> (Err e) = Err e
(Err e) <*> field = Err e

abbrev pub of_one : {A Z : Type 0} → (A → Z) → Result A LineFault → Result Z LineFault
of_one make a = Ok make <*> a

abbrev pub of_two : {A B Z : Type 0} → (A → B → Z) → Result A LineFault → Result B LineFault → Result Z LineFault
of_two make a b = Ok make <*> a <*> b

abbrev pub of_three : {A B C Z : Type 0} → (A → B → C → Z) → Result A LineFault → Result B LineFault → Result C LineFault → Result Z LineFault
of_three make a b c = Ok make <*> a <*> b <*> c

abbrev pub of_four : {A B C D Z : Type 0} → (A → B → C → D → Z) → Result A LineFault → Result B LineFault → Result C LineFault → Result D LineFault → Result Z LineFault
of_four make a b c d = Ok make <*> a <*> b <*> c <*> d

-- What a call returned, seen by view, is what is read, unless there was no memory.

abbrev pub Fails : {A : Type 0} → LineFault → Result A LineFault → Type 0
Fails fault.NotJson reading = reading ≡ Err fault.NotJson
Fails fault.UnknownCall reading = reading ≡ Err fault.UnknownCall
Fails (fault.MissingField name) reading = reading ≡ Err (fault.MissingField name)
Fails (fault.BadField name) reading = reading ≡ Err (fault.BadField name)
Fails fault.LineTooLong reading = reading ≡ Err fault.LineTooLong
Fails fault.NoMemory reading = ⊤

abbrev pub ReadsSeen : {A B : Type 0} → (A → B) → Result A LineFault → Result B LineFault → Type 0
ReadsSeen view (Ok value) reading = reading ≡ Ok (view value)
ReadsSeen view (Err e) reading = Fails e reading

abbrev pub Reads : {A : Type 0} → Result A LineFault → Result A LineFault → Type 0
Reads result reading = ReadsSeen (λ value. value) result reading

-- what a reference points to
abbrev pub seen : {A B : Type 0} → (A → B) → Result A LineFault → Result B LineFault
seen view (Ok value) = Ok (view value)
seen view (Err e) = Err e
