-- Document 01, "The program `relay`": one job, from its first byte to its last. It is refused with the number of its first fault: 50, 51, 52, 54, or
-- 20 for a range that is there whole; 53 comes after all of these.
use Rattle.std.specs.Prelude.{ℕ, zero, suc, ◌+◌, ◌*◌, ◌/◌, ◌%◌, Bool, true, false, cond, List, [], ◌++◌, eqb, ltb, leb}
use Rattle.std.specs.Prelude.{length, take, drop, replicate, Result, Ok, Err}
use Rattle.octets.specs.Octets.{at, word_at}
use Rattle.batch.specs.Walk.{batch_limit}
use Rattle.pdu.specs.Parts.{addresses_at}
use Rattle.lists.specs.Lists.{range_limit, value_limit, Lists, two}
use Rattle.decision.specs.declared.Choice.{Choice}
use Rattle.decision.specs.declared.Choice.TheVariants.{First, Neither}
use Rattle.decision.specs.declared.Settings.{Settings}
use Rattle.decision.specs.Decision.{Node, node_of}
use Rattle.job.specs.declared.JobRefusal.{JobRefusal}
use Rattle.job.specs.declared.JobRefusal.TheVariants.{CutShort, UnknownFlags, TooManyRanges, BytesAfter, BatchTooLong, RangeReversed}
use Rattle.job.specs.declared.Section.{Section}
use Rattle.job.specs.declared.Job.{Job}

-- the number of each refusal ("Numbers answered")
abbrev pub job_refusal_number : JobRefusal → ℕ
job_refusal_number CutShort = 50
job_refusal_number UnknownFlags = 51
job_refusal_number TooManyRanges = 52
job_refusal_number BytesAfter = 53
job_refusal_number BatchTooLong = 54
job_refusal_number RangeReversed = 20

-- what was read, with the number in place of its refusal
abbrev pub with_number : {A : Type 0} → Result A JobRefusal → Result A ℕ
with_number (Ok one) = Ok one
with_number (Err refusal) = Err (job_refusal_number refusal)

-- the number that each has: 0 where it shows a section or a job, else the number it holds
abbrev pub taken_number : Result Section ℕ → ℕ
taken_number (Ok section) = 0
taken_number (Err number) = number

abbrev pub job_number : Result Job ℕ → ℕ
job_number (Ok job) = 0
job_number (Err number) = number

-- what follows what was read, or its refusal
abbrev pub then_read : {A B : Type 0} → Result A JobRefusal → (A → Result B JobRefusal) → Result B JobRefusal
then_read (Ok one) later = later one
then_read (Err refusal) later = Err refusal

-- own address and flags; flags above 63 have bit 6 or 7 set
unfoldable pub job_head : List ℕ → Result (ℕ × ℕ) JobRefusal
job_head bytes = cond (ltb (length bytes) 3) (Err CutShort) (cond (ltb 63 (at bytes 2)) (Err UnknownFlags) (Ok (word_at bytes 0, at bytes 2)))

-- so many ranges of 4 bytes from a place on: none is cut short, and none that was read has its low above its high
unfoldable pub ranges_read : ℕ → List ℕ → ℕ → Result Unit JobRefusal
ranges_read zero bytes place = Ok tt
ranges_read (suc n) bytes place =
    cond (ltb (length bytes) (place + 4)) (Err CutShort)
    (cond (ltb (word_at bytes (place + 2)) (word_at bytes place)) (Err RangeReversed) (ranges_read n bytes (place + 4)))

-- a list section at a place: a count byte and that many ranges of 4 bytes
unfoldable pub list_section : List ℕ → ℕ → Result Section JobRefusal
list_section bytes place =
    cond (leb (length bytes) place) (Err CutShort)
    (cond (ltb range_limit (at bytes place)) (Err TooManyRanges)
    (then_read (ranges_read (at bytes place) bytes (place + 1)) (λ all. Ok (record { place = place + 1; count = at bytes place }))))

-- the batch section at a place: its length in 2 bytes, then that many bytes
unfoldable pub batch_section : List ℕ → ℕ → Result Section JobRefusal
batch_section bytes place =
    cond (ltb (length bytes) (place + 2)) (Err CutShort)
    (cond (ltb batch_limit (word_at bytes place)) (Err BatchTooLong)
    (cond (ltb (length bytes) (place + 2 + word_at bytes place)) (Err CutShort)
    (Ok (record { place = place + 2; count = word_at bytes place }))))

-- where a list section ends
abbrev pub list_end : Section → ℕ
list_end section = section.place + 4 * section.count

-- from byte 3 on: four list sections, the batch; nothing after it
unfoldable pub sections_of : ℕ → ℕ → List ℕ → Result Job JobRefusal
sections_of own flags bytes =
    then_read (list_section bytes 3)
    (λ a. then_read (list_section bytes (list_end a))
    (λ b. then_read (list_section bytes (list_end b))
    (λ c. then_read (list_section bytes (list_end c))
    (λ d. then_read (batch_section bytes (list_end d))
    (λ e. cond (ltb (e.place + e.count) (length bytes)) (Err BytesAfter)
    (Ok (record {
      own = own;
      flags = flags;
      source_pass = a;
      source_reject = b;
      destination_pass = c;
      destination_reject = d;
      batch = e;
    })))))))

unfoldable pub job_of : List ℕ → Result Job JobRefusal
job_of bytes = then_read (job_head bytes) (λ head. sections_of head.0 head.1 bytes)

-- the most bytes that a job without fault has: own address and flags, four lists of 64 ranges, the longest batch ("Sizes")
abbrev pub job_limit : ℕ
job_limit = 3 + 4 * (1 + 4 * range_limit) + (2 + batch_limit)

-- a kind of list that is on has the job's list, its first, chosen
abbrev pub first_if : Bool → Choice
first_if true = First
first_if false = Neither

-- a job has no edition: `relay` uses 1.2 (document 02, W-209)
abbrev pub job_edition : ℕ
job_edition = 12

-- the flags: bit 0 echo, 1 repeating, 2 source pass on, 3 source reject on, 4 destination pass on, 5 destination reject on
unfoldable pub settings_of : Job → Settings
settings_of job =
    record {
      edition = job_edition;
      own = job.own;
      echo = eqb (job.flags % 2) 1;
      repeating = eqb (job.flags / 2 % 2) 1;
      source_pass = first_if (eqb (job.flags / 4 % 2) 1);
      source_reject = first_if (eqb (job.flags / 8 % 2) 1);
      destination_pass = first_if (eqb (job.flags / 16 % 2) 1);
      destination_reject = first_if (eqb (job.flags / 32 % 2) 1);
    }

-- a list's values, low and high of each range, most significant byte first
abbrev pub values_in : List ℕ → Section → List ℕ
values_in bytes section = addresses_at bytes section.place (2 * section.count)

-- values at the start of an array that has room for every list; 0 behind them
unfoldable pub padded_values : List ℕ → List ℕ
padded_values values = take value_limit (values ++ replicate value_limit 0)

-- the batch's bytes
abbrev pub batch_in : List ℕ → Job → List ℕ
batch_in bytes job = take job.batch.count (drop job.batch.place bytes)

-- the lists of a job: each section is its kind's first list, and the second is empty (document 02, W-211)
abbrev pub job_lists : List ℕ → Job → Lists
job_lists bytes job =
    record {
      source_pass = two (values_in bytes job.source_pass) [];
      source_reject = two (values_in bytes job.source_reject) [];
      destination_pass = two (values_in bytes job.destination_pass) [];
      destination_reject = two (values_in bytes job.destination_reject) [];
    }

-- the node of a job
abbrev pub node_in : List ℕ → Job → Node
node_in bytes job = node_of (settings_of job) (job_lists bytes job)
