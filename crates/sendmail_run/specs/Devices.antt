-- All that is seen of the devices of a run (own).
use Rattle.mail_edge.specs.Seen.{ClockSeen, FilesSeen, SinkSeen, SourceSeen}
use Rattle.link_edge.specs.Heard.{Heard}
use Rattle.spool_disk.specs.Spooled.{Spooled}
use Rattle.mail_core.specs.Seen.{Beside, Hands, Seen as CoreSeen, beside, seen as core_seen}

-- what is seen of each device at one moment
pub record World : Type 1 where
  pub files : FilesSeen
  pub input : SourceSeen
  pub output : SinkSeen
  pub floor : Heard
  pub spool : Spooled
  pub clock : ClockSeen
  -- spawner and dialer
  pub hands : Hands

abbrev pub world : FilesSeen → SourceSeen → SinkSeen → Heard → Spooled → Beside → World
world files input output floor spool others =
    record {
      files = files;
      input = input;
      output = output;
      floor = floor;
      spool = spool;
      clock = others.clock;
      hands = others.hands;
    }

-- what is seen of the input and the output
pub record Streams : Type 0 where
  pub input : SourceSeen
  pub output : SinkSeen

abbrev pub streams : SourceSeen → SinkSeen → Streams
streams input output = record { input = input; output = output }

-- the devices of address test mode
abbrev pub streams_of : World → Streams
streams_of w = streams w.input w.output

-- the devices of the modes that serve
abbrev pub core_of : World → CoreSeen
core_of w = core_seen w.floor w.spool (beside w.clock w.hands)
