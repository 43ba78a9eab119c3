pub mod Groups
pub mod Sources
pub mod Origins
pub mod ChannelTable
