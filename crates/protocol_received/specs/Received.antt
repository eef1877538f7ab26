-- What a received frame says. Its data bytes d0 to d7 are a list. Definitions only.
use Rattle.std.specs.Prelude.{ℕ, ◌+◌, ◌*◌, ◌&&◌, cond, List, leb, eqb}
use Rattle.motor_core.specs.declared.model.PvTLimits.{PvTLimits}
use Rattle.registers.specs.Registers.{registers, elem, data_type_of}
use Rattle.registers.specs.Value.{value_of}
use Rattle.registers.specs.declared.RegisterDataType.{RegisterDataType}
use Rattle.registers.specs.declared.RegisterValue.{RegisterValue}
use Rattle.protocol_frame.specs.Layout.{d}
use Rattle.protocol_feedback.specs.Feedback.{feedback_of}
use Rattle.protocol_received.specs.declared.FrameClass.{FrameClass}
use Rattle.protocol_received.specs.declared.FrameClass.TheVariants as Class
use Rattle.protocol_received.specs.declared.Sorted.{Sorted}
use Rattle.protocol_received.specs.declared.Sorted.TheVariants as Sort
use Rattle.protocol_received.specs.declared.Received.{Received}
use Rattle.protocol_received.specs.declared.Received.TheVariants as Receive

-- 'The feedback on the screen', sorting, over any list of registers: a reply has the marker 0x33 in d2, an ack 0x55; both have d1 up to 0x0F and a listed register in d3. Every other frame is feedback
unfoldable pub class : List ℕ → ℕ → ℕ → ℕ → FrameClass
class rids d1 d2 d3 =
    cond (leb d1 0x0f && (eqb d2 0x33 && elem d3 rids)) Class.Reply
    (cond (leb d1 0x0f && (eqb d2 0x55 && elem d3 rids)) Class.Ack
    Class.Feedback)

abbrev pub class_of : List ℕ → FrameClass
class_of bytes = class registers (d bytes 1) (d bytes 2) (d bytes 3)

-- the id in d0 and d1 of a register's frame, lowest byte first
abbrev pub id_of : List ℕ → ℕ
id_of bytes = d bytes 0 + d bytes 1 * 0x100

-- the 32 bits in d4 to d7, lowest byte first
abbrev pub word : List ℕ → ℕ
word bytes = d bytes 4 + d bytes 5 * 0x100 + d bytes 6 * 0x1_0000 + d bytes 7 * 0x100_0000

abbrev pub typed_value : RegisterDataType → List ℕ → RegisterValue
typed_value type bytes = value_of type (word bytes)

-- the register's value, by the type of the register in d3
unfoldable pub register_value : List ℕ → RegisterValue
register_value bytes = typed_value (data_type_of (d bytes 3)) bytes

-- a frame's class, with the type of the register in d3
abbrev pub sorted_as : FrameClass → RegisterDataType → Sorted
sorted_as Class.Reply type = Sort.Reply type
sorted_as Class.Ack type = Sort.Ack type
sorted_as Class.Feedback type = Sort.Feedback

unfoldable pub sorted : List ℕ → Sorted
sorted bytes = sorted_as (class_of bytes) (data_type_of (d bytes 3))

-- the class alone
abbrev pub class_in : Sorted → FrameClass
class_in (Sort.Reply type) = Class.Reply
class_in (Sort.Ack type) = Class.Ack
class_in Sort.Feedback = Class.Feedback

-- and what is read by it
abbrev pub read_as : Sorted → PvTLimits → List ℕ → Received
read_as (Sort.Reply type) l bytes = Receive.Reply (d bytes 3) (typed_value type bytes)
read_as (Sort.Ack type) l bytes = Receive.Ack (d bytes 3) (typed_value type bytes)
read_as Sort.Feedback l bytes = Receive.Feedback (feedback_of l bytes)

abbrev pub by_class : FrameClass → PvTLimits → List ℕ → Received
by_class Class.Reply l bytes = Receive.Reply (d bytes 3) (register_value bytes)
by_class Class.Ack l bytes = Receive.Ack (d bytes 3) (register_value bytes)
by_class Class.Feedback l bytes = Receive.Feedback (feedback_of l bytes)

-- sorted, then read
unfoldable pub received : PvTLimits → List ℕ → Received
received l bytes = by_class (class_of bytes) l bytes
