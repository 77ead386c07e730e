-- The exit statuses, and which answers may come of which command (own).
use Rattle.std.specs.Prelude.{ℕ, Bool, true, false, ⊤, Option, Some}
use Rattle.cdk_words.specs.Words.{CommandWords, SynthWords, EvalWords}
use Rattle.cdk_words.specs.declared.status.Status.{Status}
use Rattle.cdk_words.specs.declared.status.Status.TheVariants.{Done, AppFault, BadWords, EvalFaults, ReadFault, WriteFault, NoMemory, BadInput}

abbrev pub status_number : Status → ℕ
status_number Done = 0
status_number AppFault = 1
status_number BadWords = 2
status_number EvalFaults = 3
status_number ReadFault = 4
status_number WriteFault = 5
status_number NoMemory = 6
status_number BadInput = 7

-- the answers of `synth`
abbrev pub is_of_synth : Status → Bool
is_of_synth Done = true
is_of_synth AppFault = true
is_of_synth ReadFault = true
is_of_synth WriteFault = true
is_of_synth NoMemory = true
is_of_synth _ = false

-- the answers of `eval`
abbrev pub is_of_eval : Status → Bool
is_of_eval Done = true
is_of_eval EvalFaults = true
is_of_eval ReadFault = true
is_of_eval WriteFault = true
is_of_eval NoMemory = true
is_of_eval BadInput = true
is_of_eval _ = false

-- the answers of a command
abbrev pub may_answer : CommandWords → Status → Bool
may_answer (SynthWords _ _ _) status = is_of_synth status
may_answer (EvalWords _ _) status = is_of_eval status

-- the answers of writing
abbrev pub is_of_writing : Status → Bool
is_of_writing Done = true
is_of_writing WriteFault = true
is_of_writing _ = false

-- the answers of printing
abbrev pub is_of_printing : Status → Bool
is_of_printing Done = true
is_of_printing EvalFaults = true
is_of_printing WriteFault = true
is_of_printing _ = false

-- the answers after which something may have been written to files
abbrev pub may_have_written : Option CommandWords → Status → Bool
may_have_written (Some (SynthWords _ _ _)) status = is_of_writing status
may_have_written _ status = false

-- the answers after which something may have been printed
abbrev pub may_have_printed : Option CommandWords → Status → Bool
may_have_printed (Some (EvalWords _ _)) status = is_of_printing status
may_have_printed _ status = false

-- the answers of `synth` where no call of the outside fails
abbrev pub IsComplete : Status → Type 0
IsComplete Done = ⊤
IsComplete AppFault = ⊤
IsComplete NoMemory = ⊤
IsComplete _ = ⊥

-- the answers of `eval` where no call of the outside fails
abbrev pub IsCompleteEval : Status → Type 0
IsCompleteEval Done = ⊤
IsCompleteEval EvalFaults = ⊤
IsCompleteEval NoMemory = ⊤
IsCompleteEval BadInput = ⊤
IsCompleteEval _ = ⊥
