-- The ack wait: document 01's 'The runs', its opening comes after the send. Definitions only.
use Rattle.std.specs.Prelude.{cond, Err}
use Rattle.time.specs.Time.{millis}
use Rattle.time.specs.declared.Instant.{Instant}
use Rattle.time.specs.declared.Duration.{Duration}
use Rattle.registers.specs.Value.{same_value}
use Rattle.registers.specs.declared.RegisterValue.{RegisterValue}
use Rattle.state_cache.specs.declared.Entry.{Entry}
use Rattle.state_cache.specs.declared.Entry.TheVariants.{Empty, Held}
use Rattle.run_want.specs.Want.{reading_of}
use Rattle.run_want.specs.Step.{Stepped, goes, ends}
use Rattle.run_want.specs.declared.Answer.{Answer}
use Rattle.run_want.specs.declared.Failure.TheVariants.{Timeout, Mismatch}
use Rattle.run_want.specs.declared.Want.{Want}
use Rattle.run_want.specs.declared.Want.TheVariants.{Clock}
use Rattle.run_want.specs.declared.message.Message.{Message}
use Rattle.run_wait.specs.Look.{fresh_entry}
use Rattle.run_wait.specs.Wait.{wait_want, wait_step}
use Rattle.run_wait.specs.declared.Wait.{Wait}
use Rattle.run_wait.specs.declared.Wait.TheVariants.{Checking}
use Rattle.run_wait.specs.declared.Waited.{Waited}
use Rattle.run_write.specs.declared.ack.AckWait.{AckWait}
use Rattle.run_write.specs.declared.ack.AckWait.TheVariants.{Opening, Waiting}

abbrev pub ack_timeout : Duration
ack_timeout = millis 50

abbrev pub ack_want : AckWait → Want Message
ack_want Opening = Clock
ack_want (Waiting wait) = wait_want wait

-- the ack says what was written, bit for bit, or something else
abbrev pub compared : RegisterValue → RegisterValue → Stepped AckWait (Unit {0})
compared value got = cond (same_value got value) (ends tt) (Err (Mismatch got))

abbrev pub ack_found : Instant → RegisterValue → Entry → Stepped AckWait (Unit {0})
ack_found opening value Empty = goes (Waiting (Checking opening))
ack_found opening value (Held got stamp) = compared value got

abbrev pub ack_look : Instant → RegisterValue → Entry → Stepped AckWait (Unit {0})
ack_look opening value entry = ack_found opening value (fresh_entry opening entry)

abbrev pub ack_waited : RegisterValue → Entry → Waited Wait → Stepped AckWait (Unit {0})
ack_waited value entry (Waited.Goes wait) = goes (Waiting wait)
ack_waited value entry (Waited.Looks opening) = ack_look opening value entry
ack_waited value entry Waited.Late = Err Timeout

-- `wait_for_write_ack`, looking at the register's ack: the first look comes with the opening
abbrev pub ack_step : RegisterValue → Entry → AckWait → Answer → Stepped AckWait (Unit {0})
ack_step value entry Opening answer = ack_look (reading_of answer) value entry
ack_step value entry (Waiting wait) answer = ack_waited value entry (wait_step ack_timeout wait answer)
